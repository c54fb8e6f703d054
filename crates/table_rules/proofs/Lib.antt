pub mod Bytes
pub mod Chained
pub mod Pairs
pub mod Tidy

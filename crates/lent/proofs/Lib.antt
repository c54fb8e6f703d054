pub mod Bytes
pub mod Chains
pub mod Scan
pub mod Stored
pub mod Turns

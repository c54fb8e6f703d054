pub mod Bytewise
pub mod Body
pub mod Recut

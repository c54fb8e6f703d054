pub mod Walk
pub mod Hash
pub mod Parts

pub mod Compare
pub mod Parts

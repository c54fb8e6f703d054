pub mod Admission
pub mod Parts

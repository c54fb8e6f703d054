pub mod Step
pub mod Packed

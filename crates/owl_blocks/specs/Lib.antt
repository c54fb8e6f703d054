pub mod Kinds
pub mod Whole

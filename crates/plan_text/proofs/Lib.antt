pub mod Laid
pub mod Whole

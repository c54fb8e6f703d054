pub mod Halves
pub mod Cases
pub mod Widths

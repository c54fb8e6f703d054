pub mod Back
pub mod Theorems
pub mod Candidate

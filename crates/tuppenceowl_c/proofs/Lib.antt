pub mod Telling
pub mod Unique

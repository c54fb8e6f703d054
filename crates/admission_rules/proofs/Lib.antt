pub mod When
pub mod Tidy
pub mod Records

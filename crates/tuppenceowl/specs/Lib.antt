pub mod Answers
pub mod Comparing
pub mod Texting

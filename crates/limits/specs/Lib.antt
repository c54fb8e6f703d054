pub mod Limits
pub mod Refusal

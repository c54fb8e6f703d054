pub mod Unique
pub mod Inside

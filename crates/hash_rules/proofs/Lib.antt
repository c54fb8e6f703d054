pub mod Walks
pub mod Prints

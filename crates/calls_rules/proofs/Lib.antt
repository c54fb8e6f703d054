pub mod Aligned
pub mod Ends

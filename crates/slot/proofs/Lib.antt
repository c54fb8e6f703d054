pub mod Kept
pub mod Checking
pub mod Packing
pub mod Unpacked

pub mod Stores
pub mod Cuts
pub mod Planned
pub mod Values

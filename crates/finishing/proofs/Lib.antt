pub mod Ended
pub mod Sorting
pub mod Picking
mod Ranked

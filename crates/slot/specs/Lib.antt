pub mod Plan
pub mod Slot

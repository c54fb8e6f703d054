pub mod Planner
pub mod Select

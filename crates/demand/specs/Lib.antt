pub mod Demand
pub mod Holds

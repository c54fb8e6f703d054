pub mod Lookups
pub mod Absent

pub mod Bases
pub mod Laws
pub mod Skipping

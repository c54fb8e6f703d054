pub mod Nearby
pub mod Shapes

pub mod Behind
pub mod Kept
pub mod Mapped
pub mod Placed
pub mod Placing
pub mod Scale

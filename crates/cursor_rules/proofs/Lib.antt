pub mod Align
pub mod Rooms
pub mod Stores
pub mod Places

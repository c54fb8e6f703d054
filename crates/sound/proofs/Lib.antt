pub mod Rows
pub mod Tiles
pub mod Widths
pub mod Calls
pub mod Finished
pub mod Made

pub mod Field
pub mod Order
pub mod Pair

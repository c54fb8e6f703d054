pub mod Put
pub mod Decimal
pub mod Hex
pub mod Taken

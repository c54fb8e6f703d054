pub mod Sum
pub mod Avro
pub mod Summands

pub mod Sound
pub mod Made

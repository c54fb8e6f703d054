pub mod Firsts
pub mod Indexed

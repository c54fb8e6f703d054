pub mod Lenient

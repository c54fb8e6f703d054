pub mod First
pub mod Valid

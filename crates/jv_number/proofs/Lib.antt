pub mod Wrapping
pub mod Examples

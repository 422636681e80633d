pub mod Growing
pub mod Accepted
pub mod Spelled
pub mod Turned
pub mod Rows

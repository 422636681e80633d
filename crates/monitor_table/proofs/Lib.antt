pub mod Waits
pub mod Counted
pub mod Shown
pub mod Indexed
pub mod Calls
pub mod Answered
pub mod Laws
pub mod Examples
mod Entries

pub mod Breakpoints
pub mod Watches
pub mod Laws

pub mod Settings
pub mod Hooks
pub mod Laws

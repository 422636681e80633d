pub mod Setting
pub mod Hooking

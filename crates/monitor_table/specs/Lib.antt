pub mod Monitors
pub mod Table
pub mod Index
pub mod Laws

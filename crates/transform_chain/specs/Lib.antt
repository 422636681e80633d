pub mod Groups
pub mod Turns
pub mod Registrations
pub mod Laws

pub mod Texts
pub mod Methods

pub mod Coverage
pub mod Ranges

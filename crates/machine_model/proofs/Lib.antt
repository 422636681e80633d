pub mod Growth
pub mod Replays
pub mod Enabling
pub mod Examples
mod BaseNames

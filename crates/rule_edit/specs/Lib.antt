pub mod Constants
pub mod Codes
pub mod Edits
pub mod Turns
pub mod Laws
pub mod EditFiles
pub mod EditRows

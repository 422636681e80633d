pub mod Phases
pub mod Capabilities
pub mod Events
pub mod Errors
pub mod Arguments
pub mod Calls
pub mod Laws

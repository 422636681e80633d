pub mod Accepted
pub mod Placed
pub mod Looked
pub mod Typed
pub mod Spelled

pub mod Sent
pub mod Loading
pub mod Promises
pub mod Refused
pub mod Picked
pub mod Reported

pub mod Answers
pub mod Holding
pub mod Lists
pub mod Nodes
pub mod Maps
pub mod Given
pub mod Reading
pub mod Loading

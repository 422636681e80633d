pub mod Named
pub mod TreeSteps
pub mod TreeSays
pub mod Wholes

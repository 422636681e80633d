pub mod Checkers
pub mod Outcomes
pub mod Verdicts
pub mod Typing
pub mod Recomputing
pub mod Laws

pub mod Maybe
pub mod Actors

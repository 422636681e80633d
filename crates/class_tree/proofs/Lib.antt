pub mod Flagged
pub mod Named
pub mod Facts

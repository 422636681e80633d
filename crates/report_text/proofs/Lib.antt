pub mod Stacks
pub mod Pieces
pub mod Numerals
pub mod Joining
pub mod Stating
pub mod Examples

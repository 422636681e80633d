pub mod Grouping
pub mod Members
pub mod Folding

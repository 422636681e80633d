pub mod Permuted
pub mod Filtered
pub mod Places
pub mod Splits
pub mod Advances

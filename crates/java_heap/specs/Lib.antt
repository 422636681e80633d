pub mod Objects
pub mod Heaps
pub mod Changes
pub mod Kept
pub mod Inside
pub mod Laws

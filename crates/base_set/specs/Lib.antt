pub mod BaseSet
pub mod BaseCode
pub mod Says
pub mod BaseTrees
pub mod Rows

-- In the order in which to read them.
pub mod Kinds
pub mod Changes
pub mod Constants
pub mod Locals
pub mod Rearranging
pub mod Computing
pub mod Branching
pub mod Switching
pub mod Effect

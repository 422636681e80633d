pub mod Reversed
pub mod OperandWords
pub mod ArgumentWords
pub mod StackWords
pub mod Slots

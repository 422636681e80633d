pub mod OperandCounts
pub mod TwoOffsets

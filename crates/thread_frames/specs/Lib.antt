pub mod Operands
pub mod Frame
pub mod Arguments
pub mod ThreadStack
pub mod Lends

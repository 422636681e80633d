pub mod ClassReading
pub mod Lawful
pub mod Owners
pub mod Repeats
pub mod ClassTree
pub mod ClassLaws

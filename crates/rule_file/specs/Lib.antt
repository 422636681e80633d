pub mod Keys
pub mod Faults
pub mod Saying
pub mod FileRows

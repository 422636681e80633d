-- In the order in which to read them. No contract of a public function cites the last one.
pub mod Codes
pub mod Spelling
pub mod Ranges
pub mod Listing
pub mod Lookups
pub mod Forms
pub mod Faults
pub mod FirstFaults
pub mod FormSearch
pub mod OperandReading
pub mod CodeReading
pub mod PoolUses
pub mod Skips

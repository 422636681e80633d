pub mod OnlyRecords
pub mod OwnTags
pub mod Orderly
pub mod Refused
pub mod AllOrNone
pub mod ChecksComputed

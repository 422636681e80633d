pub mod Names
pub mod Utf8
pub mod TextReading
pub mod Descriptors
pub mod DescriptorReading
pub mod DescriptorFlaws

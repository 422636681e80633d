pub mod Numbers
pub mod NamedFiles
pub mod Reading

pub use Rattle.jv_names.specs.Names
pub mod BaseSet
pub mod Instructions
pub mod ClassFiles
pub mod Methods
pub mod Reading

pub use Rattle.ti_ids.specs.Maybe
pub use Rattle.ti_ids.specs.Actors
pub use Rattle.jv_names.specs.Names
pub mod Runs
pub mod Texts
pub mod Stated
pub mod Named

pub mod Methods
pub mod Named

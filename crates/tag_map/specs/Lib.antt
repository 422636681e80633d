pub mod Tags
pub mod Walks
pub mod Laws

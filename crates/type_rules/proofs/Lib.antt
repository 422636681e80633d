pub mod Tops
pub mod ArrayNames
pub mod Lengths
pub mod Arguments
pub mod Calling

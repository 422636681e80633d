pub mod PoolReading
pub mod TextRoles
pub mod TextLaws

pub mod Options
pub mod Words
pub mod WordLaws
pub mod Refusals
pub mod Statuses
pub mod Fetches
pub mod Contents

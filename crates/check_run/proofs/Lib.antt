pub mod FilesTold
pub mod WordsAsked

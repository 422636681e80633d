pub mod Reading
pub mod Contents
pub mod FaultTexts

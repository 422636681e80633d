pub mod FrameReading
pub mod CodeReading
pub mod CodeLaws

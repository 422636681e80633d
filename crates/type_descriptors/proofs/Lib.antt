pub mod FieldTexts
pub mod TypeEnds
pub mod MethodTexts
pub mod Members

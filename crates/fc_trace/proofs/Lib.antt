mod LineValues
mod Tracing
pub mod WalkTexts

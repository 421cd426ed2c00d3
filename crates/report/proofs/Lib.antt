pub mod WrittenSoFar
pub mod ListTexts
mod PartRoots

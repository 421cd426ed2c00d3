pub mod Places
pub mod Kids
pub mod Standing
pub mod Subterms
pub mod Fresh
mod Counted
pub mod Kept
pub mod Blanks
pub mod NarrowTypes

pub mod Patterns
pub mod Levels
pub mod Shapes
pub mod Facts
pub mod Forms
pub mod Listing
pub mod Verdicts
pub mod Laws

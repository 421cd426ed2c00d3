pub mod BoundTexts
pub mod KnownBounds
pub mod References

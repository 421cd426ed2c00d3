pub mod BoundValues
pub mod BoundBuiltins
pub mod References
pub mod Lookups

pub mod Exports
pub mod Laws
pub mod Slots
pub mod Widening

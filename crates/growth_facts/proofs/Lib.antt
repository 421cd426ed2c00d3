pub mod FieldPairs
pub mod Closeness
pub mod Above
pub mod Raised
pub mod Grow
mod Law
mod Joins
mod Occurs
mod KidLists
mod Ranges

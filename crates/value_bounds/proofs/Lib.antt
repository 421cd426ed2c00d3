pub mod Values
mod Compare
mod Operators
pub mod Builtins
mod InOrder
mod Counts
mod Starts
mod Sizes

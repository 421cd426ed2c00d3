mod Orders
mod Operators
mod Hoods
pub mod Forms
pub mod Pointwise
pub mod Tables
mod Values
pub mod Claims
mod Picked
mod Stepped
mod Gathered
pub mod Lengths
mod Root

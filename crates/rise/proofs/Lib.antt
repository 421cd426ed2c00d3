pub mod Climbing
pub mod WithoutRise
pub mod InScope

pub mod Closeness
pub mod Standing
pub mod Tabled
pub mod Marks
pub mod Places
mod Fired
pub mod Rounding

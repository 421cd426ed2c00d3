pub mod Stable
pub mod Tables
pub mod Levels
pub mod Columns
pub mod Outside

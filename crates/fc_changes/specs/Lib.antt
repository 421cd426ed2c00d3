pub mod Lines
pub mod Commands
pub mod Code
pub mod Promises

pub mod Checks
pub mod Settles
pub mod Code
pub mod Commands
pub mod Promises

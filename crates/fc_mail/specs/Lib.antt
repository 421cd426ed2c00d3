pub mod Mails
pub mod Drives
pub mod Commands
pub mod Promises
pub mod Code

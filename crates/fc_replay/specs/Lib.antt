pub mod Stopping
pub mod Replays
pub mod WrittenLogs
pub mod Code
pub mod Promises

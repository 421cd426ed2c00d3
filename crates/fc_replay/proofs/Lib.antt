pub mod DeviceNumbers
pub mod Entries
pub mod Stops
pub mod Replaying
pub mod Rereading
pub mod OneReplay
pub mod SomeReplay
mod Leading
pub mod AskedRounds
mod ReplayOwed

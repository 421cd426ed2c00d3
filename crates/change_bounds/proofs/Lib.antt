mod Lines
pub mod Keys
mod Presence
mod Told
mod Widened

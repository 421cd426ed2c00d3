pub mod Environments
pub mod Slots
pub mod References
pub mod Hearing
pub mod Scopes

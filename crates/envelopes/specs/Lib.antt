pub mod Codes
pub mod Envelopes
pub mod Exactly
pub mod Code
pub mod Edits
pub mod Lookups

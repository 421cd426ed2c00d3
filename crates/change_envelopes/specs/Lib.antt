pub mod Envelopes
pub mod Allowed
pub mod Laws
pub mod Written

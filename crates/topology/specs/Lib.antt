pub mod Inputs
pub mod Networks
pub mod Changes
pub mod Nearby

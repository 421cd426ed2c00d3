pub mod Changes
pub mod Code
pub mod Hand
pub mod Faults
pub mod Kept

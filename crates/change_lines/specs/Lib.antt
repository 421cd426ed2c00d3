pub mod Possibles
pub mod Changes

pub mod Texts
pub mod Verdicts
pub mod Facts
pub mod Settling

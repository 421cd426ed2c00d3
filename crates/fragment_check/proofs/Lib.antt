pub mod Steps
pub mod Arguments
mod Evolving
mod Absent
mod Judgements
pub mod Shaped
pub mod Bodies
mod PartLevels
mod Unshaped

pub mod DrawSteps
pub mod Reading
pub mod ExportLists
pub mod RingLists
mod Neighbours
pub mod RingNetworks
mod Typing
mod Verdicts

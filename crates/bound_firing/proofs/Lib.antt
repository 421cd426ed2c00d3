pub mod Branch
mod Hearing
pub mod Firings
mod Seated
pub mod SlotReads
mod SeatTests
pub mod Slots
pub mod Anything
pub mod Frames
mod KidsAt
mod LetAt
mod NbrAt
mod EvolveAt
mod LeafAt
mod ApplyAt
mod HeldAt
mod IfAt
mod RootAt

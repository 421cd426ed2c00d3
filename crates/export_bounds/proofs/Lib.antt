pub mod Holding
mod Decided
mod ExactSlots
mod Injective
mod SlotSteps
mod Sides
mod WidenAt

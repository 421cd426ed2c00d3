mod Slots
mod Hearing
mod Levels
mod SameLevels
mod OutsideSlots
pub mod OneField
mod Firings
mod Beginning
mod Joined
mod JoinedPlaces

mod Envelopes
mod Starting
mod Lasts
mod Kept
mod ChangesOwed
mod Checking

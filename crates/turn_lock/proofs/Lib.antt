pub mod Lists
mod Naming
mod Owning
mod Keeping
mod Parting
mod Seating
mod Ending
mod Fanning

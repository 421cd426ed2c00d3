mod Counting
mod Rows
mod Planning
mod Paces
mod Orders
mod Keeping
mod Flying
mod Ending
mod Starting
mod Passing
mod Turning
pub mod OwnFirings
mod Calls
pub mod Crosses
pub mod Captures

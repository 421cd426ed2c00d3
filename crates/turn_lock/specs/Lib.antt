pub mod Logs
pub mod Passes
pub mod Seats
pub mod Rule
pub mod Steps
pub mod Noting

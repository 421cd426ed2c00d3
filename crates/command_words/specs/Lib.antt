pub mod Commands
pub mod Settings
pub mod Words
pub mod Options

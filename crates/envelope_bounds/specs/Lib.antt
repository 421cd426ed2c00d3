pub mod Logs
pub mod Laws
pub mod Yes

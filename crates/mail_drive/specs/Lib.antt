pub mod Drives
pub mod Laws

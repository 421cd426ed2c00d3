pub mod Leads
pub mod Growth
pub mod Beside
pub mod Laws
pub mod Turns
pub mod Facts

pub mod Walks
pub mod Gathering
pub mod Tables
pub mod Laws

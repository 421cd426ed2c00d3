pub mod Stabilised
pub mod Promises

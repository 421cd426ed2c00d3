pub mod Summaries
pub mod Gens
pub mod Promises
pub mod Code

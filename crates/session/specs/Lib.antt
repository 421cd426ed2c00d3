pub mod Shown
pub mod ScriptRuns
pub mod Growing
pub mod Conditions
pub mod Sessions
pub mod Laws
pub mod Since
pub mod Promises

pub mod Values
pub mod ReadChanges

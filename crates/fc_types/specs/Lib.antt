pub mod Before
pub mod Typing
pub mod Faults
pub mod Judging
pub mod Laws
pub mod Views
pub mod Typed

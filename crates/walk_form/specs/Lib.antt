pub mod Forms
pub mod Spans
pub mod Parts
pub mod Fields
pub mod Costs
pub mod Alone
pub mod Laws

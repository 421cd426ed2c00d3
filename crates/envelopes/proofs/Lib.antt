pub mod Within
pub mod Exact
mod Placing

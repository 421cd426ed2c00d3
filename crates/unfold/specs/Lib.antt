pub mod Unfolding
pub mod Nodes
pub mod Counting
pub mod Laws
pub mod Views
pub mod Found
pub mod Writing

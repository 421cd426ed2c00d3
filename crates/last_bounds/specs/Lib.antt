pub mod LastBounds
pub mod References
pub mod Laws

pub mod Moving
pub mod Plain
pub mod Among

pub mod Terms
pub mod Text
pub mod Pieces
pub mod Printable

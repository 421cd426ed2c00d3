pub mod Bytes
pub mod Kinds
pub mod Sizes
pub mod Lexes
pub mod Apart
pub mod Laws

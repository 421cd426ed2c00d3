pub mod AtHand
pub mod Few
pub mod Adding
pub mod Lines

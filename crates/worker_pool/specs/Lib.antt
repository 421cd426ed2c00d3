pub mod Pacing
pub mod Working
pub mod Rounding
pub mod Mixing

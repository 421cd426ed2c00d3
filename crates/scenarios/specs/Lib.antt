pub mod Words
pub mod Draws
pub mod Drawing
pub mod Rubbish
pub mod Rings
pub mod RingTerms
pub mod Laws

pub mod Hulls
pub mod Accepted
pub mod MayHappen
pub mod ScenesWithin
mod PairTable
mod PairsSaid
mod LinksWritten
mod DevicesWritten
mod Assembled
mod OneEnvelope
mod SomeEnvelope

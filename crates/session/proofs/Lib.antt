mod Lines
mod Progress
mod Runs
mod Pokes
mod Places
mod Sweeps
mod Mixing
mod SomeRuns
mod OneRuns
mod Rows
mod Folding
mod AfterEdits
mod PartRounds
mod Following
mod KeptYes
pub mod ShownFields

mod Lines
mod SameRounds
mod Settling
mod Checking

mod EditsStay
mod LookedUp
mod LogRounds
mod Exact
mod Yes

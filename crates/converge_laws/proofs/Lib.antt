pub mod RisingStarts
pub mod RisingLevels
mod LowRanks
mod Near
mod Given
mod Step
mod Evolve
mod Down
mod Root
pub mod Around
mod Seen
mod Minimise
pub mod Agreement
mod Ranged
mod Body
mod Climb
mod Guarded
mod Below
mod Acyclic
mod Leading
mod Exact
mod LimitedRise
mod RiseStep
mod Whole
mod Solved
mod RiseGoal
mod NextStage
mod One
mod Standing
pub mod Existing
mod Iterated
mod Exists
mod Stabilised
mod Ends
mod Verdict

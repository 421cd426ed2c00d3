mod Bounded
mod Small
mod LevelBounds
mod Potentials
mod NodeSteps

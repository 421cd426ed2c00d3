mod Inverted
mod Under
mod Gradients
mod Laying
mod Judging
mod Parts
pub mod Fielding
mod Equation
mod Soloing
mod Costing
mod Neighbouring
mod Asking
mod Reading

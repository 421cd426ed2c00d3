mod OneRuns
mod SomeRuns
mod Running
mod KeptYes
mod RunOwed

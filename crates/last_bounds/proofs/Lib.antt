mod Noting
mod Making
mod Ending
mod OneList
mod SomeList

mod ReadLogs
mod EditEntries
mod EntriesOfLogs
mod Readings
mod WrittenLogs
pub mod SameTexts
mod Words
mod Numbers
mod Values
mod Inputs
mod KeptValues
mod Edits
mod Lines
mod Logs

mod Answering
pub mod Owing
mod Commands
mod RunsReplaying

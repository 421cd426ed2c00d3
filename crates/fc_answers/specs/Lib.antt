pub mod Asked
pub mod Answers
pub mod Headline
pub mod Laws
pub mod LogsOfRuns
pub mod Limits

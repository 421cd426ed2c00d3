pub mod Logs
pub mod LogCode
pub mod LogEntries
pub mod LogTexts
pub mod ReadingBack

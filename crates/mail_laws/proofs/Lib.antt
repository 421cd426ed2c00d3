pub mod MailLevels
pub mod Rounds

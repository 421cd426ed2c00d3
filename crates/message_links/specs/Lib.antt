pub mod MailCores
pub mod MailRounds
pub mod MailEntries

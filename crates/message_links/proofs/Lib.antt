pub mod Reaching
pub mod Along
pub mod MailRuns
pub mod Posts
pub mod Firings
pub mod GoodMails

pub mod Pairs
pub mod Letters
pub mod Rows
pub mod MailViews
pub mod Starts
pub mod MailReplays
pub mod MailLaws

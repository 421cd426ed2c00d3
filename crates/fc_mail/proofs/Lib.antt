pub mod MailEndings
pub mod Landing
pub mod DrivenEndings
pub mod Mailing
pub mod Links
pub mod Driving
pub mod KeptYes
mod MailOwed

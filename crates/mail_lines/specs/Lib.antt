pub mod MailLines

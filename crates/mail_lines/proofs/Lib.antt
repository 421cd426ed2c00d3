pub mod ReadMail

mod Left
mod OneExport
mod Inside
mod HoldWithin
mod Rising
mod ReachFrom
pub mod Still
mod Yes
mod MailRounds
mod Times
mod Growing
mod StartTables
mod Lines
mod Settles
mod States

pub mod DrivenLogs
pub mod Covering
pub mod Leading
pub mod Turns

pub mod Same
pub mod Rules
pub mod Judged
pub mod Declarations
pub mod Entries
pub mod Arities
pub mod Arguments
pub mod Programs

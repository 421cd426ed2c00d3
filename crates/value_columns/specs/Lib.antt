pub mod Columns
pub mod Arguments
pub mod LocalWords
pub mod LoneRows
pub mod OtherRows

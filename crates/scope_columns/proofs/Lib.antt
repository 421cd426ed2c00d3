pub mod WordSteps
pub mod ScopeSteps
pub mod OwnRow
pub mod DeviceRows
pub mod KeptRows
pub mod VariableSteps
pub mod ColumnParts
pub mod HeardColumns

mod Positions
mod KeyPlaces
pub mod Views
mod Uses
pub mod Found
mod Hindered
pub mod TableRows
mod InLine
mod SortedRows
pub mod RowLimits
mod PlaceTable
pub mod CallSteps
mod TableKept
mod OutcomeSteps

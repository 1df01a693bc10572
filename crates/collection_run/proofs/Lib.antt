mod Cells
mod Forms
mod Closing
mod FewObjects
mod DecodedBytes
pub mod CellBytes
pub mod Opened
pub mod Servable
pub mod Calls
mod Rows

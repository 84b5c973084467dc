pub mod KeptRows
pub mod ByColumn
pub mod Cells
pub mod Dates
pub mod Fields

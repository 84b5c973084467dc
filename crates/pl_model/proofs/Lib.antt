pub mod Runs
pub mod Rows
pub mod Views
pub mod Costs
pub mod Parts

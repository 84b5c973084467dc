pub mod Costs
pub mod WindowSteps
pub mod Requests
pub mod Gives

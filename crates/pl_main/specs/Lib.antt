-- What the program did, and how its process ends.
pub mod Ends
pub mod Outputs
pub mod Runs

-- What the contracts of the edge cite.
pub mod Starts

-- The text of rows whose values stand in arrays, and the line that tells a run's numbers.
pub mod Places
pub mod Fields
pub mod Writings
pub mod Sums
pub mod Rows
pub mod Asked
pub mod Outcomes
pub mod Tiles
pub mod Numbers

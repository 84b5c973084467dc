pub mod Adding
pub mod Bounds
pub mod Values
mod Ranking
pub mod Placing

pub mod Counting
pub mod Held
pub mod Keepers
pub mod Pieces
pub mod Takes
pub mod HandedOn
pub mod Walks

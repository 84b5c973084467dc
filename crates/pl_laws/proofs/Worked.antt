-- Worked examples, each computed from the definitions.
pub mod Worlds
pub mod Numbers
pub mod Adjusting
pub mod Windows
mod Views
pub mod Pointwise
pub mod Elementary
pub mod Crossing
pub mod Labels
pub mod Known
pub mod Tables
pub mod Planning
pub mod Periods

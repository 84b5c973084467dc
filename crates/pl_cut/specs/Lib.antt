-- The cut of a world, and its laws.
pub mod Cuts
pub mod Within
pub mod Laws

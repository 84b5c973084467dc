-- What the contracts of this crate cite beside the definitions of pl_spec.
pub mod Reading
pub mod Pairs
pub mod Ratios
pub mod Ready

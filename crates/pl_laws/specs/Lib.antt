-- The laws, each the contract of a function.
pub mod Laws
pub mod SeenLaws
pub mod AsOfLaws
pub mod PermutedLaws
pub mod LowLaws
pub mod ListLaws
pub mod DateLaws
pub mod SidLaws

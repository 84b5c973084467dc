pub mod Packed
pub mod Fit
pub mod Summed
pub mod Says
pub mod Reading

pub mod Bits
pub mod Cells
pub mod Growing
pub mod Parts
pub mod Rising
pub mod Sizes
pub mod Terms

-- The windows of a bar column as lines, their laws, and words of the code's contracts.
pub mod Windows
pub mod Laws
pub mod Ranges
pub mod Chunks

-- Which worlds files can hold, and that their texts read back.
pub mod Held
pub mod Tables
pub mod Readable
pub mod Laws

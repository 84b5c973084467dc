pub mod Rows
pub mod Newest
pub mod OneAsset
pub mod Values
pub mod Tables
pub mod Cuts
pub mod Absent
pub mod Worked

-- What the contracts of this crate cite beside the definitions of pl_spec.
pub mod Events
pub mod Columns
pub mod Rows
pub mod Revisions
pub mod RevisionRules
pub mod RevisionFaults
pub mod RevisionKeys
pub mod Revised
pub mod Walk
pub mod Faults
pub mod Tables
pub mod Rules

pub mod Days
pub mod Rules
pub mod Faults

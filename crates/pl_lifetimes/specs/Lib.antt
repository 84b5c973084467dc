pub mod Assets
pub mod Rules
pub mod Faults

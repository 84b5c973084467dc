pub mod Evaluations
pub mod Known
pub mod Laws
pub mod Present
pub mod Records
pub mod Views
pub mod Worlds

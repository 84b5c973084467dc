pub mod Arrays
pub mod Inputs
pub mod Families
pub mod Laws
pub mod Views

pub mod Numbers
pub mod NumberFaults
pub mod NumberPlaces
pub mod NumberRules
pub mod NumberLaws
pub mod NumberRowsShown
pub mod Beside
pub mod BesidePlaces

pub mod Labels
pub mod LabelFaults
pub mod LabelPlaces
pub mod LabelStarts
pub mod LabelRules
pub mod LabelWorlds
pub mod LabelRowsShown

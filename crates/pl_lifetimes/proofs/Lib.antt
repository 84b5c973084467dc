pub mod Among
pub mod Filters
pub mod Columns
pub mod AssetsRead
pub mod AssetsSaid
pub mod SidColumns
pub mod AssetsMoved

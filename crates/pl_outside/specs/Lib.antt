-- What the contracts of the outside cite.
pub mod Counts
pub mod Files
pub mod Lists
pub mod Logs
pub mod Taken
pub mod Left
pub mod Reads
pub mod Calls
pub mod ShelfState
pub mod KeeperState
pub mod SinkState
pub mod HeldFiles
pub mod MemoryShelf
pub mod MemoryKeeper
pub mod Takes

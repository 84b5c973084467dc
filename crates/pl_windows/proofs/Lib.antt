pub mod Changes
pub mod Pieces
pub mod SessionLines
pub mod Replay
pub mod Divided
pub mod LineTexts
pub mod Traversed
pub mod Rooms

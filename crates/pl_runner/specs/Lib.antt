-- The chunks of a run, its memory, and what is written; and a world, day by day.
pub mod Chunks
pub mod Room
pub mod Runs
pub mod Releases
pub mod Buffers
pub mod Feeds
pub mod Days
pub mod States
pub mod Sessions

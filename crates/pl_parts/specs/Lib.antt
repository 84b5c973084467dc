-- The parts of a world as texts, and the cut's span.
pub mod Texts
pub mod Parts
pub mod Spans
pub mod Kept

-- The stated world, the pipeline that is run over it, and the numbers of that run.
pub mod Draws
pub mod StatedWorld
pub mod Pipeline
pub mod Plan
pub mod Numbers

-- What the input of a command is judged to be, and how the stages of loading end. Faults, Contents, Held, Work,
-- Planning, Range and Ends are for every reader; the others are words of the code's own contracts.
pub mod Faults
pub mod Contents
pub mod Rules
pub mod Held
pub mod Steps
pub mod Planning
pub mod Cells
pub mod Work
pub mod Range
pub mod Ends
pub mod Given
pub mod Stages
pub mod Known
pub mod Views
pub mod Reads
pub mod Loads
pub mod PaidOut
pub mod Windowed
pub mod Derived
pub mod Celled
pub mod Parts

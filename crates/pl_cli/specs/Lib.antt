-- What a run of the program is. Texts and Runs are for every reader; Commands are words of the code's own
-- contracts.
pub mod Texts
pub mod Views
pub mod Runs
pub mod Commands

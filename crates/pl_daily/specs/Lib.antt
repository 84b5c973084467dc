pub mod Capacities
pub mod Daily
pub mod Inside
pub mod Kept
pub mod Reaches
pub mod Ready
pub mod Room
pub mod Steps
pub mod Terms
pub mod View
-- Words of rows of a day.
pub mod Rows
pub mod TermDays
pub mod Windows
pub mod Earlier
pub mod Held
pub mod Laws
-- Words of rings.
pub mod Days
pub mod Rings
pub mod Changes
pub mod Columns
pub mod RingLaws

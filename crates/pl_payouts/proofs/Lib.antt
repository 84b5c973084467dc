pub mod DividendFields
pub mod PayoutsRead
pub mod Divisors
pub mod LastSessions
pub mod Outcomes
pub mod Lines
pub mod PayoutLines
pub mod PayoutsMoved

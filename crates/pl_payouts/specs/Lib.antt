pub mod Payouts
pub mod Rules
pub mod Faults
pub mod Ratios
pub mod RatioRules
pub mod Texts

pub mod DaysRead
pub mod DaysSaid
pub mod DaySearch
pub mod PeriodSearch

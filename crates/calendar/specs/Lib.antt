pub mod Months
pub mod Dates

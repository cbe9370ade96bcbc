pub mod Weekdays
pub mod Local

pub mod Zone
pub mod Sundays
pub mod Years
pub mod Laws
pub mod Examples
pub mod Months

pub mod Table
pub mod MonthPlaces
pub mod Searched

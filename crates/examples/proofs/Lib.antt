pub mod Summers
pub mod Tabled
pub mod Worked

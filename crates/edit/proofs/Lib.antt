pub mod Noted
pub mod Tabled

pub mod Weeks
pub mod Floors

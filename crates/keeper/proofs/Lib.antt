pub mod Leasts
pub mod Bests
pub mod Ranked
pub mod Offering
pub mod Orders

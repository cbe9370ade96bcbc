pub mod Looks
pub mod Book
pub mod Engines

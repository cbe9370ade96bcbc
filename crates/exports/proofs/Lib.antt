pub mod Each
pub mod Lifetimes

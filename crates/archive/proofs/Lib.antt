pub mod Written
pub mod Agree
pub mod Making

pub mod Unset
pub mod Vouching

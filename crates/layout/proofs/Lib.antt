pub mod Fields
pub mod Masks
pub mod Closed
pub mod Ranges

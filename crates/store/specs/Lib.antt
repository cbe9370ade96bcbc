pub mod Cells
pub mod Entries
pub mod Formats
pub mod Laws
pub mod Words

pub mod Numbered
pub mod Bits
pub mod Cells
pub mod Filled

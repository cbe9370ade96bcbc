pub mod Below
pub mod Digits
pub mod Four
pub mod Placed
pub mod Spans

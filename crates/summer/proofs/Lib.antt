pub mod Nexts
pub mod Spans
pub mod Stars
pub mod Lawful

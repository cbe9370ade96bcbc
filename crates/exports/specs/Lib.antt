pub mod Crossing
pub mod Lives
pub mod Zones

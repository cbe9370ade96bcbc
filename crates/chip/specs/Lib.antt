pub mod Chip
pub mod Moment
pub mod Moments
pub mod ChipTimeLemmas

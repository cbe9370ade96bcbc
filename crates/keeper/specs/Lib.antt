pub mod Least
pub mod Best
pub mod Offers
pub mod Fewer
pub mod Choices

pub mod Commits
pub mod Law
pub mod Making

pub mod Drafts
pub mod Edits

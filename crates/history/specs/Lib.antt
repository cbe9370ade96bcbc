pub mod Book
pub mod History

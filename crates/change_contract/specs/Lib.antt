pub mod Answers
pub mod Lists
pub mod Questions
pub mod Edits
pub mod Empty
pub mod Permuted
pub mod Single

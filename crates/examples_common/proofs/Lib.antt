pub mod Lists
pub mod Classified
pub mod Changed
pub mod Stores
pub mod Classifying
pub mod Editing

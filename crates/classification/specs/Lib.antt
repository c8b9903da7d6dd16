pub mod Classified
pub mod Closing

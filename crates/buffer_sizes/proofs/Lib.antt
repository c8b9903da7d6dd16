pub mod Answered
pub mod Meaning
pub mod Examples

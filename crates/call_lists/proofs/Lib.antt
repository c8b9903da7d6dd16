pub mod Parts
pub mod Listed
pub mod Answered
pub mod Turns
pub mod Unique

pub mod Answered
pub mod Unique
pub mod Outcomes

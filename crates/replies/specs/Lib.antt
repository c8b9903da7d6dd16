pub mod Answers
pub mod Check
pub mod Classify
pub mod Change
pub mod Lookups
pub mod Write
pub mod Accepted

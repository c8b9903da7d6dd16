pub mod Comparing
pub mod Preparing

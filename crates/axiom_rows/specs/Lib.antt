pub mod Marking
pub mod Putting
pub mod Replacing

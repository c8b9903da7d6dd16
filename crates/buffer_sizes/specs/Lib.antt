pub mod Sizes
pub mod Meaning

pub mod Meaning
pub mod Atomic

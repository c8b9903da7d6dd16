pub mod Copying
pub mod Acceptance

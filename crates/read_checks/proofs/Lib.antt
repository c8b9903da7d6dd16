pub mod Acceptance
pub mod Refusals

pub mod Checks
pub mod Unique
pub mod DemandTwo
pub mod WithoutAxioms
pub mod Filled
pub mod Answers
pub mod Refusals
pub mod Outcomes

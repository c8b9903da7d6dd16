pub mod Fresh
pub mod Says
pub mod Written
pub mod Checks
pub mod Work
pub mod Examples

pub mod Recording
pub mod Tabling
pub mod Whole
pub mod Order
pub mod Unique
pub mod Outcomes
pub mod FreshWritten
pub mod Refusals

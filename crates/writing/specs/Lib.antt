pub mod Records
pub mod Write

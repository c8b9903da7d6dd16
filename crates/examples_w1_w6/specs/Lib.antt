pub mod Stores
pub mod Table

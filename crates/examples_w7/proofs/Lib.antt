pub mod W7
pub mod Move
pub mod Calls
pub mod Table

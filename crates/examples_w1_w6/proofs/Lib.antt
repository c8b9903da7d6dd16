pub mod W1
pub mod W3
pub mod W6
pub mod Reading
pub mod Calls
pub mod Table

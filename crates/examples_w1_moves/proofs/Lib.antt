pub mod Computed
pub mod Moves
pub mod Calls
pub mod Table

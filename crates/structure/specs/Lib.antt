pub mod Parts
pub mod Marks
pub mod Reach
pub mod Square

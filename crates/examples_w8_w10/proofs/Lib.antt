pub mod W8
pub mod W9
pub mod Limits
pub mod Full
pub mod W10
pub mod Table

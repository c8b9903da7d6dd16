pub mod Exporting
pub mod Replies
pub mod Refusals
pub mod Accepted
pub mod Unique
pub mod Kept

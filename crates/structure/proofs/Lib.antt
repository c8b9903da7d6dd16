pub mod Containment
pub mod Marking
pub mod Squares
pub mod Reachability
pub mod Acceptance

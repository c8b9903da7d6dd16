pub mod Cleared
pub mod Marks
pub mod OwnAxioms

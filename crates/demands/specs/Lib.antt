pub mod Afresh
pub mod Sequences
pub mod PublicCalls
pub mod DemandOne
pub mod WriteBack
pub mod DemandTwo
pub mod GoingOn

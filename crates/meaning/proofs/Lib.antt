pub mod DemandLookup
pub mod DemandListing
pub mod DemandEntries
pub mod DemandRow
pub mod DemandAtomic

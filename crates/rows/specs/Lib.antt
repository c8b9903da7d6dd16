pub mod Bits
pub mod Next
pub mod Unions
pub mod Walking
pub mod Walks
pub mod Words

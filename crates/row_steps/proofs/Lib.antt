pub mod ByteRows
pub mod Seen
pub mod RowBits
pub mod Copies

pub mod Catalogues
pub mod Stores
pub mod Full
pub mod Table

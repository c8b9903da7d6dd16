pub mod Catalogues
pub mod Stores
pub mod Table

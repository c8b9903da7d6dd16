pub mod Catalogues
pub mod Table

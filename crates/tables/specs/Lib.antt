pub mod Sizes
pub mod Catalogues
pub mod Rows
pub mod Checks
pub mod Versions
pub mod Sample

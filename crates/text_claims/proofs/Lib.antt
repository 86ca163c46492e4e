pub mod Readings
pub mod Writings
pub mod Returns
pub mod ImageWriter

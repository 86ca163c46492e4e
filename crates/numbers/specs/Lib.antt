pub mod Readings
pub mod Numbers

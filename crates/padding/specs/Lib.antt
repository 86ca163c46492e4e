pub mod Padding
pub mod Covering

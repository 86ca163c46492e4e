pub mod Merged
pub mod Firsts
pub mod Columns

pub mod Written
pub mod Write

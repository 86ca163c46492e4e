pub mod Cursors
pub mod Decimals
pub mod Lines

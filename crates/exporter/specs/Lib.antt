pub mod TextWritten
pub mod Promise

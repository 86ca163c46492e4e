pub mod Looks
pub mod Store
pub mod Good
pub mod Lent

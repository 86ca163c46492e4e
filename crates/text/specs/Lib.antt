pub mod Lines
pub mod Reading
pub mod Order
pub mod Fields
pub mod Grammar
pub mod Writing
pub mod Refusals

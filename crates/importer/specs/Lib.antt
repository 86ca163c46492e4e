pub mod Answers
pub mod Steps
pub mod Kept
pub mod Promise

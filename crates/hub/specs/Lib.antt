pub mod Answers
pub mod Verdicts
pub mod Promises
pub mod Searching

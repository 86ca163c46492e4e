pub mod Filing
pub mod Front
pub mod Worked
pub mod FrontPage

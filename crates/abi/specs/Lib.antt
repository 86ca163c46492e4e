pub mod Words
pub mod Calls
pub mod Streams
pub mod Lists

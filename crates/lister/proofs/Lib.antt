pub mod ListingLaws
pub mod AskedLaws
pub mod ScopeLaws

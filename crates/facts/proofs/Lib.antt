pub mod SumLaws
pub mod FilingLaws
pub mod OrderLaws
pub mod OrderImages
pub mod FiledLaws
pub mod FrontLaws
pub mod Worked
pub mod FrontPaged

pub mod ListLaws
pub mod PlacedLaws
pub mod TestLaws
pub mod MemberLaws
pub mod DistinctLaws
pub mod TabLaws

pub mod CatalogueLaws
pub mod RowLaws
pub mod CheckLaws
pub mod VersionLaws
pub mod StoredLaws

pub mod WorldLaws
pub mod TouchLaws
pub mod NamedLaws
pub mod Sample

pub mod LookLaws
pub mod Tree
pub mod StoreLaws
pub mod LentLaws
pub mod Sample

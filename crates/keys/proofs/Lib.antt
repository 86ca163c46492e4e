pub mod KeyLaws
pub mod TwoWordLaws
pub mod SetLaws
pub mod Sample

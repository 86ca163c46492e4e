pub mod PaddingLaws
pub mod CoveringLaws
pub mod Examples

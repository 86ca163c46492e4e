pub mod LineSteps
pub mod HeadSteps
pub mod PlacesLaws
pub mod CollectLaws
pub mod ReadLaws

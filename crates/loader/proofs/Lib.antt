pub mod ReadingLaws
pub mod LoadLaws
pub mod SoundLaws
pub mod PlaceLaws

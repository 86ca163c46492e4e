pub mod MatchLaws
pub mod BitLaws
pub mod CursorLaws
pub mod FirstLaws
pub mod PlaceLaws
pub mod RisingLaws

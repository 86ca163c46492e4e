pub mod AcceptLaws
pub mod WriteLaws

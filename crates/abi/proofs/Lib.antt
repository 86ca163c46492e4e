pub mod WordLaws
pub mod CallLaws
pub mod StreamCallLaws
pub mod ListCallLaws

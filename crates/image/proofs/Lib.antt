pub mod ThereLaws
pub mod BackLaws
pub mod RoundTrip
pub mod Edges

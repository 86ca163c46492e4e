pub mod RoundTrip
pub mod Edges

pub mod EncodeLaws
pub mod DecodeLaws
pub mod RoundTrip

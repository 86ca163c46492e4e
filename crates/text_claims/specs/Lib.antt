pub mod TextClaims

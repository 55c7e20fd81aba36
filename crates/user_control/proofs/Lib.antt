pub mod Codes
pub mod Fours
pub mod Reading
pub mod RoundTrip
pub mod Unique

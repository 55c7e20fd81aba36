pub mod Lengths
pub mod Put
pub mod RoundTrip
pub mod Samples
pub mod Unique
pub mod Ways

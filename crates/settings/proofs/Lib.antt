pub mod Inside
pub mod Laid
pub mod Laws
pub mod Record
pub mod RoundTrip
pub mod Samples
pub mod Unique
pub mod Ways

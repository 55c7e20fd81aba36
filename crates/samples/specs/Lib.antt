pub mod Decoded
pub mod Distances
pub mod Encoded
pub mod Sample
pub mod Table
pub mod Worked

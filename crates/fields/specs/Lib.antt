pub mod Cases
pub mod Deciding
pub mod Endian
pub mod Output
pub mod Search
pub mod Writing

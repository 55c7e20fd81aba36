pub mod Meaning
pub mod Stored

pub mod Again
pub mod Formats
pub mod Refusals
pub mod Samples
pub mod Stages
pub mod Unique

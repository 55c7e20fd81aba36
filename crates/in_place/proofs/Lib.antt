pub mod Following
pub mod Landing
pub mod Sizes
pub mod Stepping
pub mod Unique

pub mod Basic
pub mod Samples
pub mod Table

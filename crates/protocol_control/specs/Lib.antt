pub mod Body
pub mod Limits
pub mod Answer
pub mod Reading
pub mod Putting
pub mod Text

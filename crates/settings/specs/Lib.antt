pub mod Record
pub mod Limits
pub mod Answer
pub mod Reading
pub mod Storing
pub mod Text

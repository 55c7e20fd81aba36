pub mod Body
pub mod Answer
pub mod Reading
pub mod Code
pub mod Text

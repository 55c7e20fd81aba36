pub mod Basic
pub mod Header
pub mod Layout
pub mod Limits
pub mod Table
pub mod Worked

pub mod Deciding
pub mod Endian
pub mod Lists
pub mod Search
pub mod Swapped
pub mod Table
pub mod Tests
pub mod Writing

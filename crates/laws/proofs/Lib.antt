pub mod Cutting
pub mod Needed
pub mod Refusing
pub mod Walking

pub mod Conditions
pub mod History
pub mod Table
pub mod Terms

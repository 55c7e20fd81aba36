pub mod Everywhere
pub mod Naming
pub mod Passing
pub mod Putting
pub mod RowLaws

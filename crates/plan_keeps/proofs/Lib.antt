pub mod Chosen
pub mod Keeps
pub mod Lengths
pub mod Runs

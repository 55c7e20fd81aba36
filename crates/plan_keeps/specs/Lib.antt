pub mod Session
pub mod Runs

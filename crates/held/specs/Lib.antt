-- a decoder as numbers, and what a byte did to it
pub mod Stages
pub mod Numbers
pub mod Done

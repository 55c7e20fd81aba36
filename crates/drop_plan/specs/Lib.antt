pub mod Queue
pub mod Places
pub mod Refusal
pub mod Answer
pub mod Check
pub mod Conditions
pub mod Plan
pub mod Promise

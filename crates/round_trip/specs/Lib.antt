pub mod Demand3
-- and what is stronger: a line that breaks after any byte
pub mod Breaking
pub mod Pieces
pub mod Runs

-- the decoder byte by byte
pub mod Walk
-- the law of cutting, its cases, and that each of its conditions is needed
pub mod Cutting
pub mod Needed

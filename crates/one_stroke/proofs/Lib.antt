pub mod AtOnce
pub mod Strokes

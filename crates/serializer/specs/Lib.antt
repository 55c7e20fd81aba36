pub mod Answer
pub mod Cursor
pub mod Header
pub mod Message
pub mod Packet
pub mod Plan
pub mod Remembered
pub mod Serialize
-- what a refusal is printed as
pub mod Text
-- how long a packet is, and how many chunks
pub mod Bounds

-- the definition, to be read beside document 01: what a chunk does, what a call and a size told do, and each answer's numbers
pub mod Decoder
pub mod Chunk
pub mod Call
pub mod Told
pub mod Answer
-- the decoders that calls make
pub mod Calls
-- bytes that are all there: a header, further chunks of a message, a piece of a payload
pub mod Head
pub mod Further
pub mod Within

-- to be read beside Adobe 5.3.1 and document 01: what a chunk does to its stream, and what a connection means
pub mod Stream
pub mod Connection
-- any calls that refuse nothing hand out what came means, and what came is read in one way
pub mod Feeding
pub mod Reading
pub mod Senders
-- what a decoder sees of a stream, and what one chunk does to that
pub mod View
pub mod Taking
pub mod Said
-- what a call writes
pub mod Writing

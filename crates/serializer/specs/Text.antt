-- What a refusal is printed as.
use Rattle.std.specs.Prelude.{List, ℕ, codes}
use Rattle.serializer.specs.declared.error.PacketError.{PacketError}
use Rattle.serializer.specs.declared.error.PacketError.TheVariants.{NoPayload, MessageTooLong, ChunkSizeZero, InvalidMaxChunkSize, OutputTooShort}

abbrev pub text_of : PacketError → List ℕ
text_of NoPayload = codes "a message has no payload"
text_of MessageTooLong = codes "a message is longer than 16777215 bytes"
text_of ChunkSizeZero = codes "a chunk size is 0"
text_of InvalidMaxChunkSize = codes "a chunk size is above 2147483647"
text_of OutputTooShort = codes "the output is shorter than the packet"

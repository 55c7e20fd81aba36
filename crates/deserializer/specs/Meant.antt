-- The decoder that one by value means.
use Rattle.decoding.specs.Decoder.{Decoder}
use Rattle.held.specs.Numbers.{decode}
use Rattle.deserializer.specs.declared.ChunkDeserializer.{ChunkDeserializer}

abbrev pub meant : ChunkDeserializer → Decoder
meant d = decode d.held d.rows

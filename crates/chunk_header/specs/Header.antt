-- The header of a stream of which nothing is remembered: no stream has the id 0.
use Rattle.std.specs.Prelude.{false}
use Rattle.chunk_header.specs.declared.ChunkHeader.{ChunkHeader}

abbrev pub nothing : ChunkHeader
nothing = record {
  chunk_stream_id = 0;
  timestamp = record { value = 0 };
  timestamp_field = 0;
  message_length = 0;
  message_type_id = 0;
  message_stream_id = 0;
  can_be_dropped = false;
}

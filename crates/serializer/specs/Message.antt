-- A message to encode, and the chunk stream that it goes on (document 01, "Encoder").
use Rattle.std.specs.Prelude.{ℕ, Bool, ◌&&◌, ◌||◌, [], ◌∷◌, leb, eqb}
use Rattle.fields.specs.Cases.{◌when◌, first}
use Rattle.serializer.specs.declared.format.Message.{Message}

abbrev pub message : (type stream time length : ℕ) → (forced droppable : Bool) → Message
message type stream time length forced droppable = record {
  type_id = type;
  stream_id = stream;
  timestamp = record { value = time };
  length = length;
  force_uncompressed = forced;
  can_be_dropped = droppable;
}

-- "1 to 6 go on 2; 18, 19 on 3; 9 on 4; 8 on 5; any other on 6"
unfoldable pub chunk_stream : (type : ℕ) → ℕ
chunk_stream type =
    first (2 when (leb 1 type && leb type 6)
    ∷ 3 when (eqb type 18 || eqb type 19)
    ∷ 4 when eqb type 9
    ∷ 5 when eqb type 8
    ∷ []) 6

-- Document 01's table, "Numbers of refusal": at each entry point that can give a number, given exactly when, and what it leaves.
use Rattle.std.specs.Prelude.{ℕ, ◌≤◌, ◌<◌, List, [], ◌∷◌, ◌↔◌, ◌≢◌, ◌⊎◌, ◌≡◌, length}
use Rattle.fields.specs.Endian.{Bytes}
use Rattle.fields.specs.Writing.{writing, refused as not_written}
use Rattle.user_control.specs.declared.UserControlEvent.{UserControlEvent}
use Rattle.user_control.specs.Answer.{refused as no_body}
use Rattle.user_control.specs.Body.{body}
use Rattle.user_control.specs.Reading.{reading}
use Rattle.protocol_control.specs.declared.Kind.{Kind}
use Rattle.protocol_control.specs.declared.ProtocolControl.{ProtocolControl}
use Rattle.protocol_control.specs.Answer.{refused as no_control}
use Rattle.protocol_control.specs.Body.{body as control_body}
use Rattle.protocol_control.specs.Putting.{putting}
use Rattle.protocol_control.specs.Reading.{control_in, reading as control_reading}
use Rattle.serializer.specs.declared.ChunkSerializer.{ChunkSerializer}
use Rattle.serializer.specs.declared.format.Message.{Message}
use Rattle.serializer.specs.Answer.{refused as no_packet}
use Rattle.serializer.specs.Serialize.{Outcome as Encoded, needed, serialized, size_body, size_changed, size_message}
use Rattle.serializer.specs.Remembered.{packet_of}
use Rattle.chunk_header.specs.Layout.{Chunk}
use Rattle.decoding.specs.Decoder.{Decoder}
use Rattle.decoding.specs.Answer.{refused}
use Rattle.decoding.specs.Call.{next, outcome}
use Rattle.decoding.specs.Told.{fresh, made, outcome as telling, refused as no_size, told}
use Rattle.stream_meaning.specs.Connection.{Item, streams}
use Rattle.stream_meaning.specs.Feeding.{Sign}
use Rattle.stream_meaning.specs.Said.{said_on}
use Rattle.refusal_table.specs.Conditions.{Eight, nine, ten, eleven, twelve, thirteen, fourteen, Fifteen, Sixteen, basic, head, head_for12, OutsideLimits, ShortBody, type}
use Rattle.refusal_table.specs.History.{Closed, Made, Open, Read, Settled}
use Rattle.refusal_table.specs.Terms.{OneOf, Row, ◌unless◌}

-- a number at an entry point, by the promises: at the encoder's calls, which leave "all as before, 0 bytes" ..
abbrev pub Encoding : ℕ → Encoded → ChunkSerializer → List ℕ → Type 0 → Type 0
Encoding k o s output Holds = Row (o.answer ≡ no_packet k) Holds ((o.serializer ≡ s) × (o.output ≡ output))

abbrev pub Serialize : ℕ → (ChunkSerializer → Message → List ℕ → List ℕ → Type 0) → Type 0
Serialize k Holds = (s : ChunkSerializer) (m : Message) (payload output : List ℕ) → Encoding k (serialized s m payload output) s output (Holds s m payload output)

abbrev pub PacketLength : ℕ → (List ℕ → Type 0) → Type 0
PacketLength k Holds = (s : ChunkSerializer) (m : Message) (payload : List ℕ) → needed s m payload ≡ no_packet k ↔ Holds payload

abbrev pub ChangeSize : ℕ → (ChunkSerializer → ℕ → ℕ → List ℕ → Type 0) → Type 0
ChangeSize k Holds = (s : ChunkSerializer) (size time : ℕ) (output : List ℕ) → Encoding k (size_changed s size time output) s output (Holds s size time output)

-- the packet of a size change
abbrev pub size_packet : ChunkSerializer → ℕ → ℕ → List ℕ
size_packet s size time = packet_of s (size_message time) (size_body size)

-- .. at the bodies' ..
abbrev pub WriteBody : ℕ → (UserControlEvent → List ℕ → Type 0) → Type 0
WriteBody k Holds = (e : UserControlEvent) (output : List ℕ) → Row ((writing (body e) output).answer ≡ not_written k) (Holds e output) ((writing (body e) output).output ≡ output)

abbrev pub ReadBody : ℕ → (List ℕ → Type 0) → Type 0
ReadBody k Holds = (bytes : List ℕ) → reading bytes ≡ no_body k ↔ Holds bytes

abbrev pub WriteControl : ℕ → (ProtocolControl → List ℕ → Type 0) → Type 0
WriteControl k Holds = (c : ProtocolControl) (output : List ℕ) → Row ((putting c output).answer ≡ not_written k) (Holds c output) ((putting c output).output ≡ output)

abbrev pub ReadControl : ℕ → (Kind → List ℕ → Type 0) → Type 0
ReadControl k Holds = (kind : Kind) (bytes : List ℕ) → control_reading kind bytes ≡ no_control k ↔ Holds kind bytes

-- .. and at the decoder's, where it is open
abbrev pub New : ℕ → (ℕ → Type 0) → Type 0
New k Holds = (room : ℕ) → Row ((made room).answer ≡ no_size k) (Holds room) ((made room).deserializer ≡ fresh room k)

abbrev pub TellSize : ℕ → (List Sign → ℕ → Type 0) → Type 0
TellSize k Holds =
    (came : List Sign) (d : Decoder) → Open came d → (size : ℕ)
    → Row ((told d size).answer ≡ no_size k) (Holds came size) ((told d size).deserializer ≡ d)

-- a call that is refused before its first byte ..
abbrev pub Call : ℕ → (Decoder → List ℕ → Type 0) → Type 0
Call k Holds =
    (came : List Sign) (d : Decoder) → Open came d → (input payload : List ℕ) → Bytes input → (n : ℕ)
    → Row ((next d input payload).answer ≡ refused k n) (Holds d payload × (n ≡ 0)) (next d input payload ≡ outcome (refused k 0) d payload)

-- .. and one that is refused "by bytes", at the n-th: a part of a chunk has come
abbrev pub CallAt : (Chunk → List ℕ) → ℕ → ((room : ℕ) → List Item → Chunk → Type 0) → Type 0
CallAt part k Holds =
    (came : List Sign) (d : Decoder) → Open came d → (input payload : List ℕ) → Bytes input → (n : ℕ)
    → Row ((next d input payload).answer ≡ refused k n) (Settled part (Holds d.setting.room) came d input payload n) (Closed k d input payload n)

-- The table. Order, where several hold: `unless`; 1 and 2, or 3 and 4, never hold together
pub record RefusalTable : Type 0 where
  -- 1 | message to encode has no payload | all as before, 0 bytes
  pub serialize_1 : Serialize 1 (λ s m payload output. length payload ≡ 0)
  pub packet_length_1 : PacketLength 1 (λ payload. length payload ≡ 0)
  -- 2 | its payload is over 16777215 | the same
  pub serialize_2 : Serialize 2 (λ s m payload output. 16777215 < length payload)
  pub packet_length_2 : PacketLength 2 (λ payload. 16777215 < length payload)
  -- 3 | new chunk size is 0 | that end as before, 0 bytes
  pub change_size_3 : ChangeSize 3 (λ s size time output. size ≡ 0)
  pub tell_size_3 : TellSize 3 (λ came size. size ≡ 0)
  -- 4 | new chunk size is over 2147483647 | the same
  pub change_size_4 : ChangeSize 4 (λ s size time output. 2147483647 < size)
  pub tell_size_4 : TellSize 4 (λ came size. 2147483647 < size)
  -- 5 | output shorter than the exact bytes needed | all as before, 0 bytes
  pub serialize_5 : Serialize 5 (λ s m payload output. length output < length (packet_of s m payload) unless ((length payload ≡ 0) ⊎ (16777215 < length payload)))
  pub change_size_5 : ChangeSize 5 (λ s size time output. length output < length (size_packet s size time) unless ((size ≡ 0) ⊎ (2147483647 < size)))
  pub write_body_5 : WriteBody 5 (λ e output. length output < length (body e))
  pub write_control_5 : WriteControl 5 (λ c output. length output < length (control_body c) unless OutsideLimits c)
  -- 6 | room is 0 or over 16777215 | a decoder closed with 6
  pub new_6 : New 6 (λ room. (room ≡ 0) ⊎ (16777215 < room))
  -- 7 | payload buffer shorter than the room | all as before, 0 used
  pub call_7 : Call 7 (λ d payload. length payload < d.setting.room)
  -- 8 | decoder told a size after the first byte of a message and before its end | decoder as before
  pub tell_size_8 : TellSize 8 (λ came size. ((r : Read came) × Eight r.items r.part) unless ((size ≡ 0) ⊎ (2147483647 < size)))
  -- 9 | type 1, 2 or 3 outside a message on a stream with no row | closed
  pub call_9 : CallAt basic 9 (λ room items c. nine items c)
  -- 10 | type 0 on a stream with no row, 64 rows used | closed
  pub call_10 : CallAt basic 10 (λ room items c. ten items c unless nine items c)
  -- 11 | inside a message, another chunk stream | closed
  pub call_11 : CallAt basic 11 (λ room items c. eleven items c unless (nine items c ⊎ ten items c))
  -- 12 | inside a message, type 1 or 2, or a type 0 that doesn't repeat the message's header | closed
  pub call_12 : CallAt head_for12 12 (λ room items c. twelve items c unless (nine items c ⊎ ten items c ⊎ eleven items c))
  -- 13 | first chunk of type 1, 2 or 3, extended time below 16777215 | closed
  pub call_13 : CallAt head 13 (λ room items c. thirteen items c unless (nine items c ⊎ ten items c ⊎ eleven items c ⊎ twelve items c))
  -- 14 | first chunk, length over the room | closed
  pub call_14 : CallAt head 14 (λ room items c. fourteen items c room unless (nine items c ⊎ ten items c ⊎ eleven items c ⊎ twelve items c ⊎ thirteen items c))
  -- 15 | control body under 2 bytes, or a known code with fewer bytes than it needs | nothing written
  pub read_body_15 : ReadBody 15 Fifteen
  -- document 02: and a short protocol control body
  pub read_control_15 : ReadControl 15 ShortBody
  -- 16 | control code unknown | nothing written
  pub read_body_16 : ReadBody 16 (λ bytes. Sixteen bytes unless Fifteen bytes)
  -- document 02: and a number of a protocol control body outside its limits
  pub read_control_16 : ReadControl 16 (λ kind bytes. OutsideLimits (control_in kind bytes) unless ShortBody kind bytes)
  pub write_control_16 : WriteControl 16 (λ c output. OutsideLimits c)

-- "A closed decoder answers its own number to every later call, uses 0 bytes and changes nothing"
pub record ClosedStays : Type 0 where
  pub call : (d : Decoder) → d.closed ≢ 0 → (input payload : List ℕ) → next d input payload ≡ outcome (refused d.closed 0) d payload
  pub tell_size : (d : Decoder) → d.closed ≢ 0 → (size : ℕ) → told d size ≡ telling (no_size d.closed) d

-- 14 is of the length in a chunk's own header: no length over the room has been said on any stream, so a first chunk of type 2 or 3 is never 14
pub record LengthsFit : Type 0 where
  pub said : (came : List Sign) (d : Decoder) → Open came d → (r : Read came) → (id : ℕ) → (said_on (streams r.items id)).length ≤ d.setting.room
  pub types : (came : List Sign) (d : Decoder) → Open came d → (r : Read came) → (c : Chunk) → fourteen r.items c d.setting.room → OneOf (type c) (0 ∷ 1 ∷ [])

-- and no entry point gives a number that the table does not name for it; a decoder that calls can make is open, or closed with one that closes
pub record NoOther : Type 0 where
  pub serialize : (s : ChunkSerializer) (m : Message) (payload output : List ℕ) (k : ℕ) → (serialized s m payload output).answer ≡ no_packet k
      → OneOf k (1 ∷ 2 ∷ 5 ∷ [])
  pub packet_length : (s : ChunkSerializer) (m : Message) (payload : List ℕ) (k : ℕ) → needed s m payload ≡ no_packet k → OneOf k (1 ∷ 2 ∷ [])
  pub change_size : (s : ChunkSerializer) (size time : ℕ) (output : List ℕ) (k : ℕ) → (size_changed s size time output).answer ≡ no_packet k
      → OneOf k (3 ∷ 4 ∷ 5 ∷ [])
  pub write_body : (e : UserControlEvent) (output : List ℕ) (k : ℕ) → (writing (body e) output).answer ≡ not_written k → OneOf k (5 ∷ [])
  pub read_body : (bytes : List ℕ) (k : ℕ) → reading bytes ≡ no_body k → OneOf k (15 ∷ 16 ∷ [])
  pub write_control : (c : ProtocolControl) (output : List ℕ) (k : ℕ) → (putting c output).answer ≡ not_written k → OneOf k (16 ∷ 5 ∷ [])
  pub read_control : (kind : Kind) (bytes : List ℕ) (k : ℕ) → control_reading kind bytes ≡ no_control k → OneOf k (15 ∷ 16 ∷ [])
  pub new : (room k : ℕ) → (made room).answer ≡ no_size k → OneOf k (6 ∷ [])
  pub tell_size : (came : List Sign) (d : Decoder) → Open came d → (size k : ℕ) → (told d size).answer ≡ no_size k
      → OneOf k (3 ∷ 4 ∷ 8 ∷ [])
  pub call : (came : List Sign) (d : Decoder) → Open came d → (input payload : List ℕ) → Bytes input → (k n : ℕ)
      → (next d input payload).answer ≡ refused k n
      → OneOf k (7 ∷ 9 ∷ 10 ∷ 11 ∷ 12 ∷ 13 ∷ 14 ∷ [])
  pub open_or_closed : (d : Decoder) → Made d
      → ((came : List Sign) × Open came d) ⊎ OneOf d.closed (6 ∷ 9 ∷ 10 ∷ 11 ∷ 12 ∷ 13 ∷ 14 ∷ [])

-- Decoders that calls can make, what has come to those that are open, and where in it a refusal is settled.
use Rattle.std.specs.Prelude.{ℕ, ◌-◌, ◌≤◌, List, [], ◌∷◌, ◌++◌, ◌≡◌, length, take}
use Rattle.fields.specs.Endian.{Bytes}
use Rattle.chunk_header.specs.Layout.{Chunk}
use Rattle.chunk_header.specs.Limits.{initial_size}
use Rattle.decoding.specs.Decoder.{Decoder}
use Rattle.decoding.specs.Answer.{message, more}
use Rattle.decoding.specs.Call.{next}
use Rattle.decoding.specs.Told.{made, taken, told}
use Rattle.stream_meaning.specs.Connection.{AllFit, Item, quiet, streams}
use Rattle.stream_meaning.specs.Feeding.{Reading, Sign, new_size, signs, signs_of}
use Rattle.stream_meaning.specs.Stream.{HeadFits}

-- any run of calls, with any buffers
pub data Made : Decoder → Type 0 where
  new : (room : ℕ) → Made (made room).deserializer
  fed : {d : Decoder} → Made d → (input payload : List ℕ) → Bytes input → Made (next d input payload).deserializer
  sized : {d : Decoder} → Made d → (size : ℕ) → Made (told d size).deserializer

-- those that are open, and what has come to them: the bytes that were used and the sizes that were taken
pub data Open : List Sign → Decoder → Type 0 where
  opened : (room : ℕ) → (made room).answer ≡ taken → Open [] (made room).deserializer
  resized : {came : List Sign} {d : Decoder} → Open came d → (size : ℕ) → (told d size).answer ≡ taken
      → Open (came ++ (new_size size ∷ [])) (told d size).deserializer
  handed : {came : List Sign} {d : Decoder} → Open came d → (input payload : List ℕ) → Bytes input
      → (type stream time long used : ℕ) → (next d input payload).answer ≡ message type stream time long used
      → Open (came ++ signs (take used input)) (next d input payload).deserializer
  wanted : {came : List Sign} {d : Decoder} → Open came d → (input payload : List ℕ) → Bytes input → (used : ℕ)
      → (next d input payload).answer ≡ more used
      → Open (came ++ signs input) (next d input payload).deserializer

-- what came to one of them, read as chunks with the sizes between them and a part of one more: `reads_one_way` says that there is one such reading
abbrev pub Read : List Sign → Type 0
Read came = Reading initial_size quiet came

-- the n-th byte of the input settles something: those before it only want more; with it a part of a chunk has come, after whole chunks, and of these something holds
pub record Settled (part : Chunk → List ℕ) (Holds : List Item → Chunk → Type 0) (came : List Sign) (d : Decoder) (input payload : List ℕ) (n : ℕ) : Type 0 where
  pub nth : (1 ≤ n) × (n ≤ length input)
  pub before : (next d (take (n - 1) input) payload).answer ≡ more (n - 1)
  pub items : List Item
  pub chunk : Chunk
  pub come : came ++ signs (take n input) ≡ signs_of items ++ signs (part chunk)
  pub fits : AllFit items
  pub can_come : HeadFits (streams items chunk.id) chunk
  pub holds : Holds items chunk

-- a decoder that is closed with a number, and otherwise the same
abbrev pub closed_with : ℕ → Decoder → Decoder
closed_with k d = record { setting = d.setting; closed = k; reader = d.reader; rows = d.rows }

-- "that byte counts as used; payload already written stays": the bytes before the n-th leave the decoder and the buffer, and the n-th only closes
pub record Closed (k : ℕ) (d : Decoder) (input payload : List ℕ) (n : ℕ) : Type 0 where
  pub closes : (next d input payload).deserializer ≡ closed_with k (next d (take (n - 1) input) payload).deserializer
  pub stays : (next d input payload).payload ≡ (next d (take (n - 1) input) payload).payload

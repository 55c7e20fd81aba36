-- Decoders that calls can make: any run of calls, with any bytes, buffers and sizes.
use Rattle.std.specs.Prelude.{ℕ, ◌≤◌, List, ◌≡◌, length}
use Rattle.byte_machine.specs.Reader.{Csid}
use Rattle.decoding.specs.Decoder.{Decoder}
use Rattle.decoding.specs.Call.{next}
use Rattle.decoding.specs.Told.{made, told}

pub data Made : Decoder → Type 0 where
  by_new : (room : ℕ) → Made (made room).deserializer
  after_call : {d : Decoder} → Made d → (input buffer : List ℕ) → Made (next d input buffer).deserializer
  after_size : {d : Decoder} → Made d → (size : ℕ) → Made (told d size).deserializer

-- one that is open and between chunks, and a buffer that is long enough for it
pub record Ready (d : Decoder) (buffer : List ℕ) : Type 0 where
  pub by_calls : Made d
  pub open_still : d.closed ≡ 0
  pub between_chunks : d.reader.stage ≡ Csid
  pub long : d.setting.room ≤ length buffer

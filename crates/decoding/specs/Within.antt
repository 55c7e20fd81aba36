-- A piece within the payload of the chunk at hand: when it is one, and what is left of the chunk after it.
use Rattle.std.specs.Prelude.{ℕ, ◌+◌, ◌-◌, ◌≤◌, ◌<◌, Bool, true, ◌≡◌}
use Rattle.decoding.specs.Decoder.{Decoder}
use Rattle.byte_machine.specs.Payload.{paid}
use Rattle.byte_machine.specs.Reader.{in_payload}

-- an open decoder in a payload, a piece of so many bytes that ends before the chunk does, and a buffer of so many
pub record Lies (d : Decoder) (length lent : ℕ) : Type 0 where
  pub open_still : d.closed ≡ 0
  pub room : d.setting.room ≤ lent
  pub stage : in_payload d.reader.stage ≡ true
  pub ends : d.reader.message.got + d.reader.chunk.left ≤ d.setting.room
  pub some : 0 < length
  pub short : length < d.reader.chunk.left

-- a test that is true only there
abbrev pub Within : Bool → Decoder → ℕ → ℕ → Type 0
Within b d length lent = b ≡ true → Lies d length lent

-- the decoder after it
abbrev pub nearer : Decoder → ℕ → Decoder
nearer d n = record {
  setting = d.setting;
  closed = d.closed;
  reader = paid d.reader (d.reader.message.got + n) (d.reader.chunk.left - n);
  rows = d.rows;
}

-- What a byte of a header does to a decoder that is lent as numbers.
use Rattle.std.specs.Prelude.{ℕ, List, ◌≡◌, Result}
use Rattle.byte_machine.specs.Reader.{Stepped}
use Rattle.byte_machine.specs.Step.{stepped}
use Rattle.decoding.specs.Call.{after}
use Rattle.decoding.specs.Decoder.{Decoder}
use Rattle.held.specs.declared.done.ChunkRefusal.{ChunkRefusal}
use Rattle.held.specs.declared.done.Event.{Event}
use Rattle.held.specs.Done.{settled_by}
use Rattle.held.specs.Numbers.{encode}
use Rattle.byte_machine.specs.Look.{look}

-- a byte of a header
abbrev pub step_in : Decoder → (byte : ℕ) → Stepped
step_in d b = stepped d.reader.stage d.setting (look d.rows) d.reader b

-- what a byte of a header leaves of a decoder that is lent
pub record Left (event : Result Event ChunkRefusal) (held rows : List ℕ) (d : Decoder) (s : Stepped) : Type 0 where
  pub event_is : settled_by event ≡ s.event
  pub numbers : held ≡ encode (after d s)
  pub table : rows ≡ (after d s).rows

-- What a turn of the loop ensures: it goes on in the input, and the run from before it is the run from after it.
use Rattle.std.specs.Prelude.{ℕ, ◌+◌, ◌≤◌, ◌<◌, List, ◌≡◌, Bool, true, ◌&&◌, drop, get_or, length}
use Rattle.byte_machine.specs.Reader.{Event, in_payload}
use Rattle.byte_machine.specs.Payload.{pays}
use Rattle.decoding.specs.Call.{Outcome, end, run}
use Rattle.decoding.specs.Decoder.{Decoder}
use Rattle.held.specs.Done.{settled_by}
use Rattle.held.specs.Stages.{stage_of}
use Rattle.held.specs.Numbers.{again, decode, held_in, reader_from}
use Rattle.held.specs.declared.numbers.Held.{Held}
use Rattle.in_place.specs.declared.paying.Moved.{Moved}

-- what follows a turn, by what it settled: an answer, or the rest of the run
abbrev pub follows : Event → Decoder → (payload : List ℕ) → (used : ℕ) → (rest : List ℕ) → Outcome
follows event d payload used rest = end event d payload used (run rest d payload used)

pub record Turned (m : Moved) (held rows input payload held' rows' payload' : List ℕ) : Type 0 where
  pub some : 0 < m.used
  pub within : m.used ≤ length input
  pub room : get_or held' 0 0 ≡ get_or held 0 0
  -- the numbers are those that stand for what they mean
  pub kept : held' ≡ again held'
  pub runs : (n : ℕ) → run input (decode held rows) payload n ≡ follows (settled_by m.event) (decode held' rows') payload' (n + m.used) (drop m.used input)

-- whether payload may come: the chunk at hand lacks a byte, and ends within the room
abbrev pub may_pay : Held → Bool
may_pay h = in_payload (stage_of h.stage) && pays h.room (reader_from h)

-- a stretch of it may come: there is input, the chunk lacks a byte and ends within the room, and so within the buffer
pub record Ready (held input payload : List ℕ) : Type 0 where
  pub stage : in_payload (stage_of (held_in held).stage) ≡ true
  pub some : 0 < length input
  pub lacks : 0 < (held_in held).left
  pub ends : (held_in held).got + (held_in held).left ≤ (held_in held).room
  pub room : (held_in held).room ≤ length payload

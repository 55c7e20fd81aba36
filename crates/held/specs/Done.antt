-- What a byte did to a decoder that is held: what it means in the machine.
use Rattle.std.specs.Prelude.{ℕ, Result, Ok, Err}
use Rattle.byte_machine.specs.Reader.{Event, Go, Chunk, Message, Refuse, Stepped}
use Rattle.byte_machine.specs.Setting.{Setting}
use Rattle.decoding.specs.Decoder.{Decoder}
use Rattle.held.specs.declared.done.ChunkRefusal.{ChunkRefusal}
use Rattle.held.specs.declared.done.ChunkRefusal.TheVariants.{UnknownStream, TooManyStreams, OtherStream, OtherHeader, SmallExtendedDelta, LengthOverRoom, Guard}
use Rattle.held.specs.declared.done.Done.{Done}
use Rattle.held.specs.declared.done.Event.{Event as HeldEvent}
use Rattle.held.specs.declared.done.Event.TheVariants.{Go as Goes, Chunk as EndsChunk, Message as EndsMessage}
use Rattle.held.specs.declared.numbers.Held.{Held}
use Rattle.held.specs.Numbers.{reader_from, setting_in}

-- the number of a refusal
abbrev pub refusal_number : ChunkRefusal → ℕ
refusal_number UnknownStream = 9
refusal_number TooManyStreams = 10
refusal_number OtherStream = 11
refusal_number OtherHeader = 12
refusal_number SmallExtendedDelta = 13
refusal_number LengthOverRoom = 14
refusal_number Guard = 255

-- .. where something is refused, and 0 where nothing is
abbrev pub refused_by : Result (Unit {0}) ChunkRefusal → ℕ
refused_by (Ok done) = 0
refused_by (Err e) = refusal_number e

-- what a byte settled, or that it is refused
abbrev pub event_of : HeldEvent → Event
event_of Goes = Go
event_of EndsChunk = Chunk
event_of EndsMessage = Message

abbrev pub settled_by : Result HeldEvent ChunkRefusal → Event
settled_by (Ok e) = event_of e
settled_by (Err e) = Refuse (refusal_number e)

-- a step, and what it leaves alone of a decoder: the room, the size and the number that it is closed with
pub record Beside : Type 0 where
  pub setting : Setting
  pub closed : ℕ
  pub step : Stepped

abbrev pub meant_by : Done → Beside
meant_by d = record {
  setting = setting_in d.held;
  closed = d.held.closed;
  step = record { reader = reader_from d.held; event = event_of d.event; place = d.place };
}

-- what a byte did; of a refusal only the number is kept
abbrev pub told : Result Done ChunkRefusal → Result Beside ℕ
told (Ok d) = Ok (meant_by d)
told (Err e) = Err (refusal_number e)

-- what a step of the machine does, by what it settles
abbrev pub done_by : Held → Stepped → Event → Result Beside ℕ
done_by h s Go = Ok (record { setting = setting_in h; closed = h.closed; step = s })
done_by h s Chunk = Ok (record { setting = setting_in h; closed = h.closed; step = s })
done_by h s Message = Ok (record { setting = setting_in h; closed = h.closed; step = s })
done_by h s (Refuse k) = Err k

abbrev pub done_of : Held → Stepped → Result Beside ℕ
done_of h s = done_by h s s.event

-- a decoder closed with a number
abbrev pub shut_with : Decoder → (closed : ℕ) → Decoder
shut_with d closed = record { setting = d.setting; closed = closed; reader = d.reader; rows = d.rows }

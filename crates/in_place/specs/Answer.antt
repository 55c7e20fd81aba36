-- Each answer's number and values, as document 01 lists them, and what making a decoder and telling it a size leave of what is lent.
use Rattle.std.specs.Prelude.{ℕ, List, ◌≡◌, Result, Ok, Err}
use Rattle.decoding.specs.Answer.{Listed, message, more, refused}
use Rattle.decoding.specs.Told.{Size, taken, told, refused as told_refused, Outcome as Told-as-Outcome}
use Rattle.decoding.specs.Decoder.{Decoder}
use Rattle.held.specs.Numbers.{decode, encode}
use Rattle.in_place.specs.declared.answer.Answer.{Answer}
use Rattle.in_place.specs.declared.answer.Answer.TheVariants.{Message, More, Refused}
use Rattle.in_place.specs.declared.refusal.Refusal.{Refusal}

-- of a call
abbrev pub answer_of : Answer → Listed
answer_of (Message m used) = message m.type_id m.stream_id m.timestamp.value m.length used
answer_of (More used) = more used
answer_of (Refused number used) = refused number used

-- numbers and a table that stand for a decoder, and mean it
pub record Stands (held rows : List ℕ) (d : Decoder) : Type 0 where
  pub numbers : held ≡ encode d
  pub table : rows ≡ d.rows
  pub means : decode held rows ≡ d

-- of making a decoder and of telling it a size
abbrev pub size_of : Result (Unit {0}) Refusal → Size
size_of (Ok done) = taken
size_of (Err e) = told_refused e.number

pub record LentSize (answer : Size) (held rows : List ℕ) (o : Told-as-Outcome) : Type 0 where
  pub answer_is : answer ≡ o.answer
  pub stands : Stands held rows o.deserializer

-- a size told, whatever table is lent: no row counts, and none is touched
pub record LentTold (answer : Size) (held : List ℕ) (size : ℕ) (held' : List ℕ) : Type 0 where
  pub beside : (rows : List ℕ) → LentSize answer held' rows (told (decode held rows) size)

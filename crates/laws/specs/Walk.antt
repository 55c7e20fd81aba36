-- A decoder over bytes one by one: what it hands out, where it ends, and what it leaves unread.
use Rattle.std.specs.Prelude.{ℕ, List, [], ◌∷◌, ◌++◌, take, drop}
use Rattle.std.proofs.Math.Option.{Option, none, some}
use Rattle.decoding.specs.Decoder.{Decoder}
use Rattle.decoding.specs.Answer.{Listed, message, more, refused, used}
use Rattle.decoding.specs.Call.{Outcome, next}
use Rattle.decoding.specs.Told.{Outcome as Told, Size, outcome as telling, taken, told}
use Rattle.stream_meaning.specs.Stream.{Message}

-- whatever tells the sizes: it is asked after each message, by what it has seen, and hears what the decoder answers
pub record Teller (S : Type 0) : Type 0 where
  pub size : S → Message → Option ℕ
  pub hears : S → Message → Size → S

-- any decoder, the payload buffer lent to each of its calls, and what the teller has seen
pub record Stand (S : Type 0) : Type 0 where
  pub decoder : Decoder
  pub buffer : List ℕ
  pub seen : S

-- what bytes led to
pub record Fed (S : Type 0) : Type 0 where
  pub messages : List Message
  pub stand : Stand S
  pub unread : List ℕ

abbrev pub fed : {S : Type 0} → List Message → Stand S → (unread : List ℕ) → Fed S
fed messages stand unread = record { messages = messages; stand = stand; unread = unread }

abbrev pub tells : Option ℕ → Decoder → Told
tells none d = telling taken d
tells (some size) d = told d size

-- a message, its payload read from the buffer at that moment, and then the size
abbrev pub handed : {S : Type 0} → Teller S → Message → Outcome → S → Fed S
handed t m o seen =
    let after = tells (t.size seen m) o.deserializer in
    fed (m ∷ []) (record { decoder = after.deserializer; buffer = o.payload; seen = t.hears seen m after.answer }) []

abbrev pub silent : {S : Type 0} → Outcome → S → Fed S
silent o seen = fed [] (record { decoder = o.deserializer; buffer = o.payload; seen = seen }) []

abbrev pub answered : {S : Type 0} → Teller S → Listed → Outcome → S → Fed S
answered t (message type stream time length used) o seen = handed t (record { type = type; stream = stream; time = time; payload = take length o.payload }) o seen
answered t (more used) o seen = silent o seen
answered t (refused number used) o seen = silent o seen

abbrev pub leaving : {S : Type 0} → (unread : List ℕ) → Fed S → Fed S
leaving unread f = fed f.messages f.stand unread

-- one call of the decoder, and the size told after its message
abbrev pub called : {S : Type 0} → Teller S → (piece : List ℕ) → Outcome → S → Fed S
called t piece o seen = leaving (drop (used o.answer) piece) (answered t o.answer o seen)

unfoldable pub call : {S : Type 0} → Teller S → (piece : List ℕ) → Stand S → Fed S
call t piece s = called t piece (next s.decoder piece s.buffer) s.seen

-- what was handed out before
abbrev pub before : {S : Type 0} → List Message → Fed S → Fed S
before messages f = fed (messages ++ f.messages) f.stand f.unread

-- after a byte: the rest, or a byte that is left unread leaves the rest unread
abbrev pub goes_on : {S : Type 0} → Fed S → (unread rest : List ℕ) → (walked : Fed S) → Fed S
goes_on f [] rest walked = before f.messages walked
goes_on f (b ∷ unread) rest walked = leaving (b ∷ unread ++ rest) f

-- byte after byte, each in a call of its own; a closed decoder, or a short buffer, leaves its bytes unread
unfoldable pub walk : {S : Type 0} → Teller S → List ℕ → Stand S → Fed S
walk t [] s = fed [] s []
walk t (b ∷ bytes) s = let f = call t (b ∷ []) s in goes_on f f.unread bytes (walk t bytes f.stand)

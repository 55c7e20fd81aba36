-- "Feeding piece a and then piece b ends in the same decoder and payload buffer, and hands out the same messages, as feeding a followed by b, with unread
-- bytes offered again, sizes told at the same places, and the buffer untouched in between. It holds for any decoder that calls can reach, closed ones included."
use Rattle.std.specs.Prelude.{ℕ, ◌≤◌, ◌<◌, List, [], ◌∷◌, ◌++◌, map, ◌≢◌, ◌≡◌, length, replicate, take, drop}
use Rattle.decoding.specs.Decoder.{Decoder}
use Rattle.decoding.specs.Answer.{Listed, message, more, refused, used}
use Rattle.decoding.specs.Call.{next}
use Rattle.laws.specs.Walk.{Fed, Stand, Teller, before, call, fed}

-- what a receiver does: bytes arrive behind those still unread, and a call offers the first n of them
pub data Move : Type 0 where
  arrive : List ℕ → Move
  offer : (n : ℕ) → Move

-- "with unread bytes offered again, sizes told at the same places, and the buffer untouched in between":
-- each call goes on from what the one before left: its unread bytes before those that it was not offered, its buffer, and its teller, which is asked after each message
abbrev pub feed : {S : Type 0} → Teller S → List Move → Stand S → (unread : List ℕ) → Fed S
feed t [] s unread = fed [] s unread
feed t (arrive bytes ∷ moves) s unread = feed t moves s (unread ++ bytes)
feed t (offer n ∷ moves) s unread =
    let c = call t (take n unread) s in
    before c.messages (feed t moves c.stand (c.unread ++ drop n unread))

abbrev pub arrived : List Move → List ℕ
arrived [] = []
arrived (arrive bytes ∷ moves) = bytes ++ arrived moves
arrived (offer n ∷ moves) = arrived moves

-- the numbers with which calls were refused
abbrev pub refusal_of : Listed → List ℕ
refusal_of (message type stream time length used) = []
refusal_of (more used) = []
refusal_of (refused number used) = number ∷ []

abbrev pub refusals : {S : Type 0} → Teller S → List Move → Stand S → (unread : List ℕ) → List ℕ
refusals t [] s unread = []
refusals t (arrive bytes ∷ moves) s unread = refusals t moves s (unread ++ bytes)
refusals t (offer n ∷ moves) s unread =
    let c = call t (take n unread) s in
    refusal_of (next s.decoder (take n unread) s.buffer).answer ++ refusals t moves c.stand (c.unread ++ drop n unread)

-- no call can use more: nothing is unread, or the decoder is closed, or the buffer is short
pub data Spent {S : Type 0} (f : Fed S) : Type 0 where
  nothing_unread : f.unread ≡ [] → Spent f
  closed : f.stand.decoder.closed ≢ 0 → Spent f
  short : length f.stand.buffer < f.stand.decoder.setting.room → Spent f

-- "ends in the same decoder and payload buffer, and hands out the same messages"; and the same bytes are unread, and the teller has heard the same
pub record Same {S : Type 0} (f g : Fed S) : Type 0 where
  pub decoder : f.stand.decoder ≡ g.stand.decoder
  pub buffer : f.stand.buffer ≡ g.stand.buffer
  pub messages : f.messages ≡ g.messages
  pub unread : f.unread ≡ g.unread
  pub seen : f.stand.seen ≡ g.stand.seen

module _ (S : Type 0) where
  -- the same bytes in any two ways. "It holds for any decoder that calls can reach, closed ones included": it holds for any decoder at all
  abbrev pub AnyTwoWays : Type 0
  AnyTwoWays =
      (t : Teller S) (s : Stand S) (unread : List ℕ) (one other : List Move) → arrived one ≡ arrived other
      → Spent (feed t one s unread) → Spent (feed t other s unread)
      → Same (feed t one s unread) (feed t other s unread)

  -- "feeding piece a and then piece b": a in any calls, some of which may hand out messages, then what they leave unread and b in any calls, beside a followed by b in any calls
  abbrev pub Cutting : Type 0
  Cutting =
      (t : Teller S) (s : Stand S) (a b : List ℕ) (calls_a calls_b calls_ab : List ℕ)
      → let fed_a = feed t (map offer calls_a) s a in
      let fed_b = feed t (map offer calls_b) fed_a.stand (fed_a.unread ++ b) in
      let fed_ab = feed t (map offer calls_ab) s (a ++ b) in
      Spent fed_b → Spent fed_ab → Same (before fed_a.messages fed_b) fed_ab

  -- it speaks of all bytes, for any can be fed so: each call offers all that is unread, as often as there are bytes
  abbrev pub CanBeFed : Type 0
  CanBeFed = (t : Teller S) (s : Stand S) (bytes : List ℕ) → Spent (feed t (map offer (replicate (length bytes) (length bytes))) s bytes)

  -- a refusal shows at the end: where the decoder is open and the buffer long enough, no call was refused
  abbrev pub OpenRefusedNothing : Type 0
  OpenRefusedNothing =
      (t : Teller S) (s : Stand S) (unread : List ℕ) (moves : List Move)
      → (feed t moves s unread).stand.decoder.closed ≡ 0
      → (feed t moves s unread).stand.decoder.setting.room ≤ length (feed t moves s unread).stand.buffer
      → refusals t moves s unread ≡ []

  -- what a reader may ask about one by one
  pub record Cases : Type 0 where
    -- a piece given to one call, which stops at a message and leaves the rest of the piece unread
    pub one_call : (t : Teller S) (s : Stand S) (a b : List ℕ) (calls_b calls_ab : List ℕ)
        → let c = call t a s in
        let fed_b = feed t (map offer calls_b) c.stand (c.unread ++ b) in
        let fed_ab = feed t (map offer calls_ab) s (a ++ b) in
        Spent fed_b → Spent fed_ab → Same (before c.messages fed_b) fed_ab
    -- an empty piece
    pub empty_piece : (t : Teller S) (s : Stand S) → call t [] s ≡ fed [] s []
    -- a closed decoder leaves all unread, and so does one whose buffer is short
    pub closed_decoder : (t : Teller S) (s : Stand S) (moves : List Move) (unread : List ℕ) → s.decoder.closed ≢ 0 → feed t moves s unread ≡ fed [] s (unread ++ arrived moves)
    pub short_buffer : (t : Teller S) (s : Stand S) (moves : List Move) (unread : List ℕ) → length s.buffer < s.decoder.setting.room
        → feed t moves s unread ≡ fed [] s (unread ++ arrived moves)
    -- a call in between that is lent another buffer, which is short, uses nothing and changes nothing
    pub short_in_between : (d : Decoder) (piece other : List ℕ) → length other < d.setting.room
        → (used (next d piece other).answer ≡ 0) × ((next d piece other).deserializer ≡ d) × ((next d piece other).payload ≡ other)

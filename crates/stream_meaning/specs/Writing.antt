-- What a call writes: the payload bytes that it uses, one after the other, from the place on to which their message has come.
use Rattle.std.specs.Prelude.{ℕ, ◌+◌, ◌≤◌, cond, List, [], ◌∷◌, ◌++◌, ◌≡◌, length}
use Rattle.std.proofs.lemmas.List.Edits.{sets}
use Rattle.byte_machine.specs.Reader.{Event, Go, Chunk, Message, Refuse, Reader, come_of, in_payload}
use Rattle.decoding.specs.Decoder.{Decoder}
use Rattle.decoding.specs.Answer.{more}
use Rattle.decoding.specs.Call.{after, next, step_of}
use Rattle.decoding.specs.Calls.{Made}

-- the place of the next payload byte: how much of the message at hand has come, none before its first chunk's payload
abbrev pub place_in : Reader → ℕ
place_in r = cond (in_payload r.stage) r.message.got (come_of r.message)

-- the bytes that a call uses where payload is due: it stops at the first message or refusal
abbrev pub unless_answered : Event → (later : List ℕ) → List ℕ
unless_answered Go later = later
unless_answered Chunk later = later
unless_answered Message later = []
unless_answered (Refuse k) later = []

abbrev pub due : Decoder → (byte : ℕ) → List ℕ
due d b = cond (in_payload d.reader.stage) (b ∷ []) []

unfoldable pub payload_in : (input : List ℕ) → Decoder → List ℕ
payload_in [] d = []
payload_in (b ∷ bs) d = due d b ++ unless_answered (step_of d b).event (payload_in bs (after d (step_of d b)))

-- "a call writes only the payload bytes that it used, at their own places", all of them within the room
pub record Writes (d : Decoder) (input buffer : List ℕ) : Type 0 where
  pub stores : (next d input buffer).payload ≡ sets buffer (place_in d.reader) (payload_in input d)
  pub within : place_in d.reader + length (payload_in input d) ≤ d.setting.room

abbrev pub WritesExactly : Type 0
WritesExactly = (d : Decoder) → Made d → (input buffer : List ℕ) → d.closed ≡ 0 → d.setting.room ≤ length buffer → Writes d input buffer

-- of bytes cut in two, those of the first part, and then those of the second
abbrev pub OfParts : Type 0
OfParts =
    (d : Decoder) (a b : List ℕ) (m : ℕ) (buffer : List ℕ) → (next d a buffer).answer ≡ more m
    → payload_in (a ++ b) d ≡ payload_in a d ++ payload_in b (next d a buffer).deserializer

-- Each condition of the cutting law is needed: three small runs in which one of them is broken, and other messages come out.
use Rattle.std.specs.Prelude.{ℕ, List, [], ◌∷◌, ◌++◌, ◌≡◌, replicate}
use Rattle.std.proofs.Math.Option.{Option, none, some}
use Rattle.decoding.specs.Told.{made, told}
use Rattle.stream_meaning.specs.Stream.{Message}
use Rattle.laws.specs.Walk.{Fed, Stand, Teller, call, walk}

-- a list of what is to be told after each message (demand 3's)
abbrev first : List (Option ℕ) → Option ℕ
first [] = none
first (size ∷ later) = size

abbrev rest : List (Option ℕ) → List (Option ℕ)
rest [] = []
rest (size ∷ later) = later

abbrev pub listed : Teller (List (Option ℕ))
listed = record { size = λ later m. first later; hears = λ later m answer. rest later }

-- a fresh decoder of room 2
abbrev start : List (Option ℕ) → Stand (List (Option ℕ))
start sizes = record { decoder = (made 2).deserializer; buffer = replicate 2 0; seen = sizes }

-- audio of two bytes: a chunk of type 0 on chunk stream 3 without its payload, and a message of it
abbrev header : List ℕ
header = 3 ∷ 0 ∷ 0 ∷ 0 ∷ 0 ∷ 0 ∷ 2 ∷ 8 ∷ 0 ∷ 0 ∷ 0 ∷ 0 ∷ []

abbrev audio : (x y : ℕ) → Message
audio x y = record { type = 8; stream = 0; time = 0; payload = x ∷ y ∷ [] }

-- "with unread bytes offered again": a message, and the first byte of a chunk of type 3, in one call; then the rest
abbrev a : List ℕ
a = header ++ (5 ∷ 6 ∷ 195 ∷ [])

abbrev b : List ℕ
b = 7 ∷ 8 ∷ []

abbrev one_call : Fed (List (Option ℕ))
one_call = call listed a (start [])

pub record UnreadNeeded : Type 0 where
  pub whole : (walk listed (a ++ b) (start [])).messages ≡ audio 5 6 ∷ audio 7 8 ∷ []
  pub handed : one_call.messages ≡ audio 5 6 ∷ []
  pub left : one_call.unread ≡ 195 ∷ []
  pub offered_again : (walk listed (one_call.unread ++ b) one_call.stand).messages ≡ audio 7 8 ∷ []
  pub thrown_away : (walk listed b one_call.stand).messages ≡ []

-- "sizes told at the same places": a size of 1 after the first message, or before it
abbrev sized : List ℕ
sized = header ++ (5 ∷ 6 ∷ 195 ∷ 7 ∷ 195 ∷ 8 ∷ [])

abbrev early : Stand (List (Option ℕ))
early = record { decoder = (told (made 2).deserializer 1).deserializer; buffer = replicate 2 0; seen = [] }

pub record PlacesNeeded : Type 0 where
  pub straight_after : (walk listed sized (start (some 1 ∷ []))).messages ≡ audio 5 6 ∷ audio 7 8 ∷ []
  pub before : (walk listed sized early).messages ≡ []

-- "the buffer untouched in between": a cut after the first byte of a payload
abbrev amid : Fed (List (Option ℕ))
amid = call listed (header ++ (5 ∷ [])) (start [])

abbrev touched : Stand (List (Option ℕ))
touched = record { decoder = amid.stand.decoder; buffer = replicate 2 0; seen = [] }

pub record BufferNeeded : Type 0 where
  pub untouched : (walk listed (6 ∷ []) amid.stand).messages ≡ audio 5 6 ∷ []
  pub overwritten : (walk listed (6 ∷ []) touched).messages ≡ audio 0 6 ∷ []

-- A queue of packets, and places in it.
use Rattle.std.specs.Prelude.{ℕ, zero, suc, ◌+◌, Bool, false, cond, List, [], ◌∷◌, length, get_or}

-- the packets' "32-bit lengths and droppable marks", oldest first; places count from 0
pub record Queue : Type 0 where
  pub lengths : List ℕ
  pub marks : List Bool

abbrev pub queue : (lengths : List ℕ) → (marks : List Bool) → Queue
queue lengths marks = record { lengths = lengths; marks = marks }

abbrev pub size : Queue → ℕ
size q = length q.lengths

-- "a queue of up to 64 packets"
abbrev pub most : ℕ
most = 64

-- a packet without a mark is not droppable
abbrev pub droppable : Queue → (place : ℕ) → Bool
droppable q place = get_or q.marks place false

abbrev pub length_at : Queue → (place : ℕ) → ℕ
length_at q place = get_or q.lengths place 0

-- the lengths at places, added up
unfoldable pub total : (lengths : List ℕ) → (places : List ℕ) → ℕ
total lengths [] = 0
total lengths (p ∷ ps) = get_or lengths p 0 + total lengths ps

-- n places, from a place on
unfoldable pub places_from : (place n : ℕ) → List ℕ
places_from p zero = []
places_from p (suc n) = p ∷ places_from (suc p) n

-- the places of a queue
abbrev pub places : Queue → List ℕ
places q = places_from 0 (size q)

-- of places, those that pass a test
unfoldable pub those : (ℕ → Bool) → List ℕ → List ℕ
those test [] = []
those test (p ∷ ps) = cond (test p) (p ∷ those test ps) (those test ps)

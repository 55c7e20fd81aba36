-- Distances of two timestamps: the owner's, document 01's pairs, and the ends of the clock.
use Rattle.std.specs.Prelude.{ℕ, suc, List, [], ◌∷◌, ℤ, pos, negsuc}
use Rattle.time.specs.Distance.{distance}
use Rattle.samples.specs.Sample.{Sample, ◌is◌}

-- so far on, or so far back
abbrev on : ℕ → List ℕ
on n = 1 ∷ n ∷ []

abbrev back : ℕ → List ℕ
back n = 0 ∷ n ∷ []

abbrev signed : ℤ → List ℕ
signed (pos n) = on n
signed (negsuc n) = back (suc n)

abbrev from_to : (first second : ℕ) → List ℕ
from_to first second = signed (distance first second)

abbrev pub distances : List Sample
distances =
    -- "Distance from 2147483648 to 0 is 2147483648, and the other way its negative"
    from_to 2147483648 0 is on 2147483648
    ∷ from_to 0 2147483648 is back 2147483648
    -- "10000 is later than 4000000000, and 3000000000 is earlier than 4000000000"
    ∷ from_to 4000000000 10000 is on 294977296
    ∷ from_to 10000 4000000000 is back 294977296
    ∷ from_to 3000000000 4000000000 is on 1000000000
    -- past the end of the round
    ∷ from_to 4294967295 0 is on 1
    ∷ from_to 0 4294967295 is back 1
    -- "the frame is 120 ms before the event"
    ∷ from_to 880 1000 is on 120
    -- the farthest that is second minus first
    ∷ from_to 0 2147483647 is on 2147483647
    ∷ from_to 2147483647 0 is back 2147483647
    -- equal ones
    ∷ from_to 0 0 is on 0
    ∷ from_to 4294967295 4294967295 is on 0
    ∷ []

-- A search for an id among numbered places, by what the id at each place is.
use Rattle.std.specs.Prelude.{ℕ, zero, suc, cond, eqb}

-- of n places from i on, the first that has the id; `none` where there is none
unfoldable pub seek_first : (n i : ℕ) → (ids : ℕ → ℕ) → (id none : ℕ) → ℕ
seek_first zero i ids id none = none
seek_first (suc n) i ids id none = cond (eqb (ids i) id) i (seek_first n (suc i) ids id none)

-- of n places, the last that has the id; `none` where there is none
unfoldable pub seek_last : (n : ℕ) → (ids : ℕ → ℕ) → (id none : ℕ) → ℕ
seek_last zero ids id none = none
seek_last (suc n) ids id none = cond (eqb (ids n) id) n (seek_last n ids id none)

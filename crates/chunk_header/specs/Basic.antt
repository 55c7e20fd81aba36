-- Reading a basic header (Adobe 5.3.1.1; document 01): an id, or none, as more has to come.
use Rattle.std.specs.Prelude.{ℕ, ◌+◌, ◌*◌, ◌%◌, List, [], ◌∷◌, eqb, Option, Some, None}
use Rattle.fields.specs.Cases.{◌when◌, first}

-- n = 0: one byte b follows, id b + 64
abbrev pub after_zero : List ℕ → Option ℕ
after_zero [] = None
after_zero (b ∷ bs) = Some (b + 64)

-- n = 1: two bytes b1, b2 follow, id 256 * b2 + b1 + 64
abbrev pub after_one : List ℕ → Option ℕ
after_one [] = None
after_one (b1 ∷ []) = None
after_one (b1 ∷ b2 ∷ bs) = Some (256 * b2 + b1 + 64)

-- "the low six are n. For n from 2 to 63 the chunk stream id is n"
unfoldable pub csid : List ℕ → Option ℕ
csid [] = None
csid (b ∷ bs) = first (after_zero bs when eqb (b % 64) 0 ∷ after_one bs when eqb (b % 64) 1 ∷ []) (Some (b % 64))

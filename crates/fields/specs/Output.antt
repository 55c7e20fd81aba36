-- A lent output that is written byte after byte.
use Rattle.std.specs.Prelude.{ℕ, ◌+◌, cond, List, ◌++◌, ◌≡◌, leb, length, drop}
use Rattle.std.proofs.lemmas.List.Edits.{sets}

-- the bytes over the first of the output, whose others stay as they were
abbrev pub over : (bytes output : List ℕ) → List ℕ
over bytes output = bytes ++ drop (length bytes) output

-- the bytes stored from a place on; where the output does not reach that far it stays as it was
unfoldable pub stored : (output : List ℕ) → (at : ℕ) → (bytes : List ℕ) → List ℕ
stored output at bytes = cond (leb (at + length bytes) (length output)) (sets output at bytes) output

-- the bytes are added at a place, and the next place is the one after them
pub record Adds (output : List ℕ) (at : ℕ) (bytes : List ℕ) (next : ℕ) (output' : List ℕ) : Type 0 where
  pub place : next ≡ at + length bytes
  pub left : output' ≡ stored output at bytes

-- What writing bytes to a lent output answers and leaves: they stand at its start and no other byte is touched, or it is refused
-- with 5 and stays as it was (document 01).
use Rattle.std.specs.Prelude.{ℕ, Bool, List, [], ◌∷◌, ltb, length}
use Rattle.fields.specs.Cases.{◌when◌, first}
use Rattle.fields.specs.Output.{over}

pub data Wrote : Type 0 where
  -- so many bytes
  wrote : ℕ → Wrote
  refused : (number : ℕ) → Wrote

-- the answer, and the output after it
pub record Outcome : Type 0 where
  pub answer : Wrote
  pub output : List ℕ

abbrev pub outcome : Wrote → (output : List ℕ) → Outcome
outcome answer output = record { answer = answer; output = output }

-- a refusal leaves the output as it was
abbrev pub refuse : (number : ℕ) → (output : List ℕ) → Outcome
refuse number output = outcome (refused number) output

-- the output is shorter than the exact bytes needed
abbrev pub lacks : (output bytes : List ℕ) → Bool
lacks output bytes = ltb (length output) (length bytes)

unfoldable pub writing : (bytes output : List ℕ) → Outcome
writing bytes output = first (refuse 5 output when lacks output bytes ∷ []) (outcome (wrote (length bytes)) (over bytes output))

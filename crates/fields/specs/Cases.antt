-- Rules in an order, as document 01 lists them: the first that applies decides.
use Rattle.std.specs.Prelude.{ℕ, Bool, cond, false, ◌||◌, List, [], ◌∷◌, eqb}

infix 70 ◌when◌
pub data Case (A : Type 0) : Type 0 where
  ◌when◌ : A → Bool → Case A

abbrev pub first : {A : Type 0} → List (Case A) → A → A
first [] otherwise = otherwise
first ((a when b) ∷ cases) otherwise = cond b a (first cases otherwise)

-- a number is one of some
abbrev pub among : (number : ℕ) → List ℕ → Bool
among n [] = false
among n (k ∷ ks) = eqb n k || among n ks

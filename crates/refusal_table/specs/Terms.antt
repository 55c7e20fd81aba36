-- The words that the table is made of: a row, and that the first of several rows decides.
use Rattle.std.specs.Prelude.{ℕ, List, [], ◌∷◌, ◌↔◌, ◌⊎◌, ◌≡◌}

-- a row of the table: an answer is given exactly when something holds, and leaves something
pub record Row (Answered Holds Leaves : Type 0) : Type 0 where
  pub given : Answered ↔ Holds
  pub leaves : Answered → Leaves

-- "where two fall on one byte", and wherever several rows hold: this one, and none of the earlier ones
infix 2 ◌unless◌
abbrev pub ◌unless◌ : Type 0 → Type 0 → Type 0
This unless Earlier = This × ¬ Earlier

abbrev pub OneOf : ℕ → List ℕ → Type 0
OneOf n [] = ⊥
OneOf n (k ∷ ks) = (n ≡ k) ⊎ OneOf n ks

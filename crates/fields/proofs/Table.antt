-- A rule of a table, proved once: the table is what the rule gives at 0, 1, 2 and so on, which is computed, so each entry is the rule's.
use Rattle.std.proofs.Common.{◌≡◌, ℕ, zero, suc, ◌<◌, List, [], ◌∷◌, get_or, refl, le_of_suc-le-suc, not-suc-le-zero}

abbrev pub tabulate : {A : Type 0} → (ℕ → A) → ℕ → List A
tabulate f zero = []
tabulate f (suc n) = f 0 ∷ tabulate (λ k. f (suc k)) n

pub get_d_tabulate : {A : Type 0} (f : ℕ → A) (n k : ℕ) (d : A) → k < n → get_or (tabulate f n) k d ≡ f k
get_d_tabulate f zero k d h = absurd (not-suc-le-zero h)
get_d_tabulate f (suc n) zero d h = refl
get_d_tabulate f (suc n) (suc k) d h = get_d_tabulate (λ i. f (suc i)) n k d (le_of_suc-le-suc h)

-- Each length and each n of a basic header, read off its bytes by their places.
use Rattle.std.proofs.Common.{◌≡◌, ℕ, ◌+◌, ◌*◌, ◌%◌, ◌<◌, ◌≤◌, ◌≢◌, List, [], ◌∷◌, length, get_or, Some, None, refl, arith, eq-eqb, ne_eqb}
use Rattle.chunk_header.specs.Basic.{csid}

-- the low six bits of the first byte
abbrev n : List ℕ → ℕ
n bs = get_or bs 0 0 % 64

pub csid_zero_short : (bs : List ℕ) → n bs ≡ 0 → length bs < 2 → csid bs ≡ None
unfolding csid
csid_zero_short [] e h = refl
csid_zero_short (b ∷ []) e h = simp (eq-eqb (b % 64) 0 e)
csid_zero_short (b ∷ c ∷ bs) e h = absurd (omega arith)

pub csid_zero : (bs : List ℕ) → n bs ≡ 0 → 2 ≤ length bs → csid bs ≡ Some (get_or bs 1 0 + 64)
unfolding csid
csid_zero [] e h = absurd (omega arith)
csid_zero (b ∷ []) e h = absurd (omega arith)
csid_zero (b ∷ c ∷ bs) e h = simp (eq-eqb (b % 64) 0 e)

pub csid_one_short : (bs : List ℕ) → n bs ≡ 1 → length bs < 3 → csid bs ≡ None
unfolding csid
csid_one_short [] e h = refl
csid_one_short (b ∷ []) e h = rw e
csid_one_short (b ∷ c ∷ []) e h = rw e
csid_one_short (b ∷ c ∷ d ∷ bs) e h = absurd (omega arith)

pub csid_one : (bs : List ℕ) → n bs ≡ 1 → 3 ≤ length bs → csid bs ≡ Some (256 * get_or bs 2 0 + get_or bs 1 0 + 64)
unfolding csid
csid_one [] e h = absurd (omega arith)
csid_one (b ∷ []) e h = absurd (omega arith)
csid_one (b ∷ c ∷ []) e h = absurd (omega arith)
csid_one (b ∷ c ∷ d ∷ bs) e h = rw e

pub csid_small : (bs : List ℕ) → 1 ≤ length bs → n bs ≢ 0 → n bs ≢ 1 → csid bs ≡ Some (n bs)
unfolding csid
csid_small [] h p q = absurd (omega arith)
csid_small (b ∷ bs) h p q = simp (ne_eqb (b % 64) 0 p, ne_eqb (b % 64) 1 q)

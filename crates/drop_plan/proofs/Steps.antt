-- Those of places that pass a test, one place on: at the front, where they are added up, and behind the others, where they are kept.
use Rattle.std.proofs.Common.{ℕ, zero, suc, ◌+◌, ◌≡◌, Bool, true, false, cond, List, [], ◌∷◌, ◌++◌, get_or, refl, ap, arith, add-one}
use Rattle.drop_plan.specs.Queue.{places_from, those, total}

-- one that passes a test is counted, and another is not
pub total_those : (lengths : List ℕ) (test : ℕ → Bool) (p : ℕ) (ps : List ℕ)
    → total lengths (those test (p ∷ ps)) ≡ cond (test p) (get_or lengths p 0) 0 + total lengths (those test ps)
unfolding total those
total_those lengths test p ps = go (test p)
  where
    go : (b : Bool) → total lengths (cond b (p ∷ those test ps) (those test ps)) ≡ cond b (get_or lengths p 0) 0 + total lengths (those test ps)
    go true = refl
    go false = omega arith

-- one that passes a test is kept behind the others, and another is not
those_behind : (test : ℕ → Bool) (p n : ℕ) → those test (places_from p (suc n)) ≡ those test (places_from p n) ++ cond (test (p + n)) ((p + n) ∷ []) []
unfolding those places_from
those_behind test p zero = let e : p + 0 ≡ p = omega arith in rw e refl
those_behind test p (suc n) =
    let e : suc p + n ≡ p + suc n = omega arith in
    go (test p) _ _ _ (rw e at (those_behind test (suc p) n))
  where
    go : (b : Bool) (later before kept : List ℕ) → later ≡ before ++ kept → cond b (p ∷ later) later ≡ cond b (p ∷ before) before ++ kept
    go true later before kept h = ap (λ (ks : List ℕ). p ∷ ks) h
    go false later before kept h = h

pub those_more : (test : ℕ → Bool) (n : ℕ) → those test (places_from 0 (n + 1)) ≡ those test (places_from 0 n) ++ cond (test n) (n ∷ []) []
those_more test n = let e : 0 + n ≡ n = omega arith in rw add-one (rw e at (those_behind test 0 n))

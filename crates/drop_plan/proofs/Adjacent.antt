-- Places rise exactly where each is below the next.
use Rattle.std.proofs.Common.{◌≡◌, ℕ, suc, ◌+◌, ◌<◌, Bool, true, false, List, [], ◌∷◌, length, get_or, nat_lt, refl, sym, arith, add-one, lt-ltb, ltb-true, ltb-false}
use Rattle.std.specs.List.{IsAllAdjacentAnswer}
use Rattle.drop_plan.specs.Check.{rising}
use Rattle.drop_plan.proofs.Conditions.{neighbours}

neighbours_rise : (ks : List ℕ) → ((i : ℕ) → suc i < length ks → get_or ks i 0 < get_or ks (suc i) 0) → rising ks ≡ true
unfolding rising
neighbours_rise [] h = refl
neighbours_rise (p ∷ []) h = refl
neighbours_rise (p ∷ k ∷ ks) h = rw (lt-ltb p k (h 0 (omega arith)), neighbours_rise (k ∷ ks) (λ i l. h (suc i) (omega arith)))

pub adjacent_rising : (ks : List ℕ) (r : Bool) → IsAllAdjacentAnswer (λ x y b. b ≡ nat_lt x y) ks r → r ≡ rising ks
adjacent_rising ks true h =
    sym (neighbours_rise ks (λ i l. ltb-true _ _ (sym (rw add-one at (h i 0 (omega arith))))))
adjacent_rising ks false h = go (rising ks) refl
  where
    go : (b : Bool) → rising ks ≡ b → false ≡ rising ks
    go false e = sym e
    go true e =
        let low : get_or ks (suc h.0) 0 < get_or ks h.0 0 + 1 = omega (arith, ltb-false _ _ (sym (rw add-one at (h.2 0)))) in
        absurd (omega (arith, neighbours ks e h.0 (omega arith)))

-- The laws of the distance that other crates lean on. Swapping the sides negates the plain difference, and so what is wrapped; all
-- others go by the four ways in which two timestamps lie.
use Rattle.std.proofs.Common.{◌≡◌, ℕ, zero, suc, ◌-◌, ◌^◌, ◌<◌, ◌≤◌, Bool, true, false, ltb, ◌↔◌, ℤ, pos, negsuc, ◌+ℤ◌, ◌-ℤ◌, neg_ℤ, nat_abs, sym, refl, ap, ◌∙◌, arith, ltb-false, ltb-true, le-ltb, lt-ltb}
use lib.IntN.{sub_ℕ, pos-ne-negsuc, neg_ℤ-neg_ℤ, neg_ℤ-+ℤ, +ℤ_comm}
use Rattle.time.specs.Clock.{difference, apart, adjacent}
use Rattle.time.specs.Distance.{wrapped, distance, moved}
use Rattle.time.proofs.Signed.{minus_sub, sub_on, sub_back}
use Rattle.time.proofs.Ways.{Way, on, back, round_on, round_back, way}

minus_swapped : (x y : ℤ) → x -ℤ y ≡ neg_ℤ (y -ℤ x)
minus_swapped x y = sym (neg_ℤ-+ℤ y (neg_ℤ x) ∙ ap (λ (z : ℤ). neg_ℤ y +ℤ z) (neg_ℤ-neg_ℤ x) ∙ +ℤ_comm (neg_ℤ y) x)

-- of a number above 0 and of its negative the tests come out alike
wrapped_negative : (n : ℕ) → wrapped (negsuc n) ≡ neg_ℤ (wrapped (pos (suc n)))
unfolding wrapped
wrapped_negative n = by (ltb adjacent (suc n)) refl
  where
    by : (t : Bool) → ltb adjacent (suc n) ≡ t → wrapped (negsuc n) ≡ neg_ℤ (wrapped (pos (suc n)))
    by true e = rw (e, lt-ltb (adjacent - 1) n (omega (arith, ltb-true adjacent (suc n) e))) (minus_swapped (negsuc n) (neg_ℤ (pos (2 ^ 32))))
    by false e = rw (e, le-ltb (adjacent - 1) n (omega (arith, ltb-false adjacent (suc n) e)))

wrapped_negated : (d : ℤ) → wrapped (neg_ℤ d) ≡ neg_ℤ (wrapped d)
unfolding wrapped
wrapped_negated (pos zero) = refl
wrapped_negated (pos (suc n)) = wrapped_negative n
wrapped_negated (negsuc n) = sym (ap neg_ℤ (wrapped_negative n) ∙ neg_ℤ-neg_ℤ (wrapped (pos (suc n))))

-- swapping the two sides negates it
pub distance_swapped : (a b : ℕ) → distance b a ≡ neg_ℤ (distance a b)
distance_swapped a b = ap wrapped (minus_swapped (pos a) (pos b)) ∙ wrapped_negated (pos b -ℤ pos a)

-- the exact ends of the range
pub distance_ends : (distance 2147483648 0 ≡ pos 2147483648) × (distance 0 2147483648 ≡ neg_ℤ (pos 2147483648))
unfolding wrapped
distance_ends = (refl, refl)

module _ (a b : ℕ) (p : a < 2 ^ 32) (q : b < 2 ^ 32) where
  -- from -2147483648 to 2147483648
  pub distance_range : nat_abs (distance a b) ≤ 2147483648
  distance_range = by (way a b p q)
    where
      by : {d : ℤ} → Way a b d → nat_abs d ≤ 2147483648
      by (on n h e) = omega arith
      by (back n h e) = omega arith
      by (round_on n h f e) = omega arith
      by (round_back n h f e) = omega arith

  -- adding the distance to the first gives the second
  pub distance_reached : moved a (distance a b) ≡ b
  distance_reached = by (way a b p q)
    where
      by : {d : ℤ} → Way a b d → moved a d ≡ b
      by (on n h e) = omega arith
      by (back n h e) = omega arith
      by (round_on n h f e) = omega arith
      by (round_back n h f e) = omega arith

  -- where the two are near, it is the plain difference
  pub distance_plain : apart a b ≤ adjacent → distance a b ≡ pos b -ℤ pos a
  distance_plain k = by (way a b p q) ∙ sym (minus_sub b a)
    where
      by : {d : ℤ} → Way a b d → d ≡ sub_ℕ b a
      by (on n h e) = sym (sub_on b a (omega arith) ∙ ap pos (omega arith))
      by (back n h e) = sym (sub_back b a (omega arith) ∙ ap negsuc (omega arith))
      by (round_on n h f e) = absurd (omega arith)
      by (round_back n h f e) = absurd (omega arith)

  -- up to 2147483647 on it is the clock's own difference
  pub distance_forward : (n : ℕ) → n ≤ adjacent → distance a b ≡ pos n ↔ difference b a ≡ n
  distance_forward n k = by (way a b p q)
    where
      by : {d : ℤ} → Way a b d → d ≡ pos n ↔ difference b a ≡ n
      by (on m h e) = (λ l. let x : m ≡ n = cc in omega arith, λ l. ap pos (omega arith))
      by (back m h e) = (λ l. absurd (pos-ne-negsuc n m (sym l)), λ l. absurd (omega arith))
      by (round_on m h f e) = (λ l. let x : m ≡ n = cc in omega arith, λ l. ap pos (omega arith))
      by (round_back m h f e) = (λ l. absurd (pos-ne-negsuc n m (sym l)), λ l. absurd (omega arith))

  -- 0 exactly when equal
  pub distance_same : distance a b ≡ pos 0 ↔ a ≡ b
  distance_same = (λ h. omega (arith, (distance_forward 0 (omega arith)).0 h), λ h. (distance_forward 0 (omega arith)).1 (omega arith))

-- The four ways in which two timestamps lie: the second on or back from the first, straight or past the end of the round. What is
-- asked of a distance is then plain arithmetic, way by way.
use Rattle.std.proofs.Common.{◌≡◌, ℕ, suc, ◌+◌, ◌-◌, ◌^◌, ◌<◌, ◌≤◌, Bool, true, false, ltb, ℤ, pos, negsuc, refl, arith, ltb-false, ltb-true}
use Rattle.time.specs.Clock.{adjacent}
use Rattle.time.specs.Distance.{wrapped, distance}
use Rattle.time.proofs.Signed.{minus_sub, sub_on, sub_back}

pub data Way (a b : ℕ) : ℤ → Type 0 where
  on : (n : ℕ) → n ≤ adjacent → b ≡ a + n → Way a b (pos n)
  back : (n : ℕ) → suc n ≤ adjacent → a ≡ b + suc n → Way a b (negsuc n)
  round_on : (n : ℕ) → n ≤ suc adjacent → adjacent < a - b → a + n ≡ b + 2 ^ 32 → Way a b (pos n)
  round_back : (n : ℕ) → suc n ≤ suc adjacent → adjacent < b - a → b + suc n ≡ a + 2 ^ 32 → Way a b (negsuc n)

module _ (a b : ℕ) (p : a < 2 ^ 32) (q : b < 2 ^ 32) where
  forwards : (n : ℕ) → b ≡ a + n → Way a b (wrapped (pos n))
  unfolding wrapped
  forwards n e = by (ltb adjacent n) refl
    where
      by : (t : Bool) → ltb adjacent n ≡ t → Way a b (wrapped (pos n))
      by true f =
          let h = ltb-true adjacent n f in
          rw (f, sub_back n (2 ^ 32) (omega arith)) (round_back (2 ^ 32 - suc n) (omega arith) (omega arith) (omega arith))
      by false f = rw f (on n (ltb-false adjacent n f) e)

  backwards : (n : ℕ) → a ≡ b + suc n → Way a b (wrapped (negsuc n))
  unfolding wrapped
  backwards n e = by (ltb (adjacent - 1) n) refl
    where
      by : (t : Bool) → ltb (adjacent - 1) n ≡ t → Way a b (wrapped (negsuc n))
      by true f =
          let h = ltb-true (adjacent - 1) n f in
          rw (f, sub_on (2 ^ 32) (suc n) (omega arith)) (round_on (2 ^ 32 - suc n) (omega arith) (omega arith) (omega arith))
      by false f = let h = ltb-false (adjacent - 1) n f in rw f (back n (omega arith) e)

  pub way : Way a b (distance a b)
  way = by (ltb b a) refl
    where
      by : (t : Bool) → ltb b a ≡ t → Way a b (distance a b)
      by true f = let h = ltb-true b a f in rw (minus_sub b a, sub_back b a h) (backwards (a - suc b) (omega arith))
      by false f = let h = ltb-false b a f in rw (minus_sub b a, sub_on b a h) (forwards (b - a) (omega arith))

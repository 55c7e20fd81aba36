-- The sign of the distance is document 01's order, by the four ways in which two timestamps lie. The order is not transitive.
use Rattle.std.proofs.Common.{◌≡◌, ℕ, ◌^◌, ◌<◌, ◌↔◌, ℤ, pos, negsuc, arith, ltb→lt, lt→ltb}
use lib.Signed.{lt_z_yes}
use Rattle.time.specs.Distance.{wrapped, distance}
use Rattle.time.specs.Order.{Earlier, Same, Later, Ordered}
use Rattle.time.proofs.DistanceLaws.{distance_same}
use Rattle.time.proofs.Ways.{Way, on, back, round_on, round_back, way}

-- what a sign says, of a number from 0 up and of one below 0
module _ {P : Type 0} (n : ℕ) where
  up : (0 < n → P) → (P → 0 < n) → Earlier (pos n) ↔ P
  up f g = (λ h. f (ltb→lt 0 n h.lt), λ x. lt_z_yes (lt→ltb 0 n (g x)))

  not_down : (P → ⊥) → Later (pos n) ↔ P
  not_down f = (λ h. absurd (omega (arith, ltb→lt n 0 h.lt)), λ x. absurd (f x))

  not_up : (P → ⊥) → Earlier (negsuc n) ↔ P
  not_up f = (λ h. absurd h.lt, λ x. absurd (f x))

  down : P → Later (negsuc n) ↔ P
  down x = (λ h. x, λ y. lt_z_yes tt)

module _ (a b : ℕ) (p : a < 2 ^ 32) (q : b < 2 ^ 32) where
  by_way : {d : ℤ} → Way a b d → (Same d ↔ a ≡ b) → Ordered a b d
  by_way (on n h e) s =
      record {
        as_numbers_earlier = λ k. up n (λ l. omega arith) (λ l. omega arith);
        as_numbers_later = λ k. not_down n (λ l. omega arith);
        reversed_earlier = λ k. absurd (omega arith);
        reversed_later = λ k. absurd (omega arith);
        same = s;
      }
  by_way (back n h e) s =
      record {
        as_numbers_earlier = λ k. not_up n (λ l. omega arith);
        as_numbers_later = λ k. down n (omega arith);
        reversed_earlier = λ k. absurd (omega arith);
        reversed_later = λ k. absurd (omega arith);
        same = s;
      }
  by_way (round_on n h f e) s =
      record {
        as_numbers_earlier = λ k. absurd (omega arith);
        as_numbers_later = λ k. absurd (omega arith);
        reversed_earlier = λ k. up n (λ l. omega arith) (λ l. omega arith);
        reversed_later = λ k. not_down n (λ l. omega arith);
        same = s;
      }
  by_way (round_back n h f e) s =
      record {
        as_numbers_earlier = λ k. absurd (omega arith);
        as_numbers_later = λ k. absurd (omega arith);
        reversed_earlier = λ k. not_up n (λ l. omega arith);
        reversed_later = λ k. down n (omega arith);
        same = s;
      }

  pub ordered : Ordered a b (distance a b)
  ordered = by_way (way a b p q) (distance_same a b p q)

-- the smallest three in a row whose ends are the other way round
pub not_transitive : Earlier (distance 0 1) × Earlier (distance 1 2147483648) × Later (distance 0 2147483648)
unfolding wrapped
not_transitive = (lt_z_yes tt, lt_z_yes tt, lt_z_yes tt)

-- "Timestamps under addition form a group with 0, and swapping the two sides of the signed distance negates it."
use Rattle.std.specs.Prelude.{◌≡◌, ℕ, ◌^◌, ◌<◌, neg_ℤ}
use Rattle.time.specs.Clock.{sum, difference}
use Rattle.time.specs.Distance.{distance}

-- the numbers of which this holds form a group under this addition
pub record Group (Member : ℕ → Type 0) (add : ℕ → ℕ → ℕ) (neutral : ℕ) (inverse : ℕ → ℕ) : Type 0 where
  pub closed : (a b : ℕ) → Member a → Member b → Member (add a b)
  pub associative : (a b c : ℕ) → Member a → Member b → Member c → add (add a b) c ≡ add a (add b c)
  pub neutral_member : Member neutral
  pub neutral_left : (a : ℕ) → Member a → add neutral a ≡ a
  pub neutral_right : (a : ℕ) → Member a → add a neutral ≡ a
  pub inverse_member : (a : ℕ) → Member a → Member (inverse a)
  pub inverse_left : (a : ℕ) → Member a → add (inverse a) a ≡ neutral
  pub inverse_right : (a : ℕ) → Member a → add a (inverse a) ≡ neutral

-- a number of 32 bits
abbrev pub Timestamp : ℕ → Type 0
Timestamp value = value < 2 ^ 32

pub record ClockLaws : Type 0 where
  pub group : Group Timestamp sum 0 (difference 0)
  pub swapped : (first second : ℕ) → Timestamp first → Timestamp second → distance second first ≡ neg_ℤ (distance first second)

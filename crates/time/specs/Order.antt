-- Document 01's order of two timestamps, read off the sign of their distance.
use Rattle.std.specs.Prelude.{◌≡◌, ℕ, ◌<◌, ◌≤◌, ◌↔◌, ℤ, pos, ◌<ℤ◌}
use Rattle.time.specs.Clock.{apart}

-- how the first stands to the second, with this distance from the first to the second
abbrev pub Earlier : ℤ → Type 0
Earlier distance = pos 0 <ℤ distance

abbrev pub Same : ℤ → Type 0
Same distance = distance ≡ pos 0

abbrev pub Later : ℤ → Type 0
Later distance = distance <ℤ pos 0

-- "Two timestamps that differ as plain numbers by at most 2147483647 compare as numbers; beyond that the order is reversed."
pub record Ordered (a b : ℕ) (distance : ℤ) : Type 0 where
  pub as_numbers_earlier : apart a b ≤ 2147483647 → (Earlier distance ↔ a < b)
  pub as_numbers_later : apart a b ≤ 2147483647 → (Later distance ↔ b < a)
  pub reversed_earlier : 2147483647 < apart a b → (Earlier distance ↔ b < a)
  pub reversed_later : 2147483647 < apart a b → (Later distance ↔ a < b)
  pub same : Same distance ↔ a ≡ b

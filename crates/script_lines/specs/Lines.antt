-- Lines that are read piece by piece; document 01 says nothing of them.
use Rattle.std.specs.Prelude.{ℕ, ◌≡◌, ◌≢◌, ◌<◌, ◌≤◌, ◌-◌, List, length, slice_index}

-- a line with no end yet begins at this place of what was read: no line ends from there on, and one ends right before it
pub record Begins (read : List ℕ) (place : ℕ) : Type 0 where
  pub within : place ≤ length read
  pub no_end : (k : ℕ) → place ≤ k → k < length read → slice_index read k ≢ 10
  pub behind_an_end : 0 < place → slice_index read (place - 1) ≡ 10

-- What a decoder was made with and told: its room, and the chunk size in force.
use Rattle.std.specs.Prelude.{ℕ}

pub record Setting : Type 0 where
  pub room : ℕ
  pub size : ℕ

abbrev pub setting : (room size : ℕ) → Setting
setting room size = record { room = room; size = size }

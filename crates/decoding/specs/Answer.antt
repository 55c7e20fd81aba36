-- Each answer's number and values, as document 01 lists them. Every promise of a call goes through these.
use Rattle.std.specs.Prelude.{ℕ}

pub data Listed : Type 0 where
  -- type, stream id, timestamp and length, and how many bytes were used
  message : (type stream time length used : ℕ) → Listed
  -- more wanted
  more : (used : ℕ) → Listed
  refused : (number used : ℕ) → Listed

-- "each answer tells how many bytes it used"
abbrev pub used : Listed → ℕ
used (message type stream time length n) = n
used (more n) = n
used (refused number n) = n

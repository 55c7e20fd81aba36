-- The clock (document 01, "The clock"; Adobe 4): milliseconds counted modulo 2 ^ 32.
use Rattle.std.specs.Prelude.{ℕ, ◌+◌, ◌-◌, ◌%◌, ◌^◌}

-- sums and differences modulo 2 ^ 32
abbrev pub sum : (a b : ℕ) → ℕ
sum a b = (a + b) % 2 ^ 32

abbrev pub difference : (a b : ℕ) → ℕ
difference a b = (2 ^ 32 + a - b) % 2 ^ 32

-- how far apart two plain numbers lie
abbrev pub apart : (a b : ℕ) → ℕ
apart a b = (a - b) + (b - a)

-- how far apart numbers may lie and still compare as numbers: Adobe's 2 ^ 31 - 1
abbrev pub adjacent : ℕ
adjacent = 2147483647

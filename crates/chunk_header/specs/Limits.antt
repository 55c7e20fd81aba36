-- The limits of a chunk stream (Adobe 5.3.1.2, 5.3.1.3 and 5.4.1; document 01).
use Rattle.std.specs.Prelude.{ℕ}

-- a time field of this says that an extended time follows; a time or delta of this or more is sent so
abbrev pub max_field : ℕ
max_field = 16777215

-- the longest message: its length has three bytes
abbrev pub max_length : ℕ
max_length = 16777215

-- the chunk size at the start, and the largest one
abbrev pub initial_size : ℕ
initial_size = 128

abbrev pub max_size : ℕ
max_size = 2147483647

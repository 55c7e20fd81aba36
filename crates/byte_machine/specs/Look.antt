-- One question to the table a chunk: the place of its stream's row (64: it has none), the row there, and the place of the first
-- free row (64: all are used).
use Rattle.std.specs.Prelude.{ℕ, List}
use Rattle.chunk_meaning.specs.Stored.{Row}
use Rattle.byte_machine.specs.Rows.{find, free, row_at}

pub record Look : Type 0 where
  pub place : ℕ
  pub row : Row
  pub unused : ℕ

abbrev pub look : (rows : List ℕ) → (id : ℕ) → Look
look rows id = record { place = find rows id; row = row_at rows (find rows id); unused = free rows }

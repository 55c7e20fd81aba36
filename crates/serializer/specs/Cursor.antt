-- Bytes added to an output, at the place of a cursor.
use Rattle.std.specs.Prelude.{ℕ, ◌+◌, ◌≤◌, ◌≡◌, List, length}
use Rattle.fields.specs.Output.{Adds}
use Rattle.serializer.specs.declared.cursor.Cursor.{Cursor}

-- so many bytes fit from the place on
abbrev pub HasRoom : Cursor → ℕ → Type 0
HasRoom c n = c.at + n ≤ length c.output.now

-- the bytes are added, to the same output
pub record Added (c : Cursor) (bytes : List ℕ) (c' : Cursor) : Type 0 where
  pub same : c'.output.ghost_name ≡ c.output.ghost_name
  pub whole : length c'.output.now ≡ length c.output.now
  pub adds : Adds c.output.now c.at bytes c'.at c'.output.now

-- The three ways a whole basic header goes: refused, a stream that has a row, or one that claims a free row.
use Rattle.std.proofs.Common.{◌≡◌, ℕ, ◌<◌, ◌≤◌, not, eqb, ltb, ◌≢◌, List, le-ltb, lt-ltb, eq-eqb, ne_eqb}
use Rattle.chunk_header.specs.declared.ChunkHeaderFormat.{ChunkHeaderFormat}
use Rattle.byte_machine.specs.Reader.{Reader, refuse}
use Rattle.byte_machine.specs.Step.{claims, known, named}
use Rattle.chunk_meaning.specs.Meaning.{basic_refusal}
use Rattle.byte_machine.specs.Rows.{find, free, row_at, row_count}
use Rattle.byte_machine.specs.Setting.{Setting}
use Rattle.byte_machine.specs.Look.{look}

module _ (setting : Setting) (rows : List ℕ) (r : Reader) (format : ChunkHeaderFormat) (id place unused k : ℕ)
    (p : place ≡ find rows id) (u : unused ≡ free rows)
    (e : k ≡ basic_refusal format (ltb place row_count) (ltb unused row_count) (not (eqb r.message.id 0)) (eqb r.message.id id)) where
  pub named_refused : k ≢ 0 → refuse r k ≡ named setting (look rows id) r format id
  unfolding named
  named_refused h = rw (← p, ← u, ← e, ne_eqb k 0 h)

  pub named_known : k ≡ 0 → place < row_count → known setting r format (row_at rows place) place ≡ named setting (look rows id) r format id
  unfolding named
  named_known h less = rw (← p, ← u, ← e, eq-eqb k 0 h, lt-ltb place row_count less)

  pub named_claims : k ≡ 0 → row_count ≤ place → claims r format id unused ≡ named setting (look rows id) r format id
  unfolding named
  named_claims h all = rw (← p, ← u, ← e, eq-eqb k 0 h, le-ltb place row_count all)

-- The invariant: the search back from the newest row is the search back from i.
use Rattle.std.proofs.Common.{◌≡◌}
use Rattle.fields.specs.Search.{seek_last}
use Rattle.byte_machine.specs.Rows.{find, id_at, row_count}
use Rattle.held.proofs.table.find.Given as goal

abbrev pub invariant-loop-i : goal.invariant-loop-i
invariant-loop-i l = find l.rows l.id ≡ seek_last l.i (id_at l.rows) l.id row_count

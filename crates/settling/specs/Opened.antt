-- A header that is whole, over numbers.
use Rattle.std.specs.Prelude.{ℕ}
use Rattle.byte_machine.specs.Reader.{Stepped, headed}
use Rattle.byte_machine.specs.Header.{opens}
use Rattle.chunk_meaning.specs.Stored.{timed}
use Rattle.held.specs.declared.numbers.Held.{Held}
use Rattle.held.specs.Numbers.{reader_from, row_from}

-- the payload of a chunk opened at a time
abbrev pub opened_to : Held → (time got : ℕ) → Stepped
opened_to h time got = opens h.size (headed (reader_from h) (timed (row_from h.header) time)) got

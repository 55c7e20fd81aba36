-- The table of 64 header rows: six numbers a row, and after them how many rows are used, from the first on.
use Rattle.std.specs.Prelude.{ℕ, suc, ◌+◌, ◌*◌, ◌%◌, min, Bool, cond, List, [], ◌∷◌, ltb, get_or, replicate, set}
use Rattle.std.proofs.Math.Option.{Option, none, some}
use Rattle.std.proofs.lemmas.List.Edits.{sets}
use Rattle.fields.specs.Search.{seek_last}
use Rattle.chunk_meaning.specs.Stored.{Row, claimed, row}

abbrev pub row_count : ℕ
row_count = 64

-- the numbers of a row, those of the table, where a row's begin, and where the count is
abbrev pub row_length : ℕ
row_length = 6

abbrev pub table_length : ℕ
table_length = row_count * row_length + 1

abbrev pub start : ℕ → ℕ
start i = row_length * i

abbrev pub count_at : ℕ
count_at = row_count * row_length

-- a table in which every row is free
abbrev pub empty_table : List ℕ
empty_table = replicate table_length 0

-- how many rows are used; a larger count means all
abbrev pub used : List ℕ → ℕ
used rows = min (get_or rows count_at 0) row_count

abbrev pub id_at : (rows : List ℕ) → (i : ℕ) → ℕ
id_at rows i = get_or rows (start i) 0

abbrev pub row_at : (rows : List ℕ) → (i : ℕ) → Row
row_at rows i =
    row (id_at rows i) (get_or rows (start i + 1) 0) (get_or rows (start i + 2) 0) (get_or rows (start i + 3) 0) (get_or rows (start i + 4) 0 % 256)
    (get_or rows (start i + 5) 0)

abbrev pub numbers : Row → List ℕ
numbers r = r.id ∷ r.timestamp.value ∷ r.timestamp_field ∷ r.message_length ∷ r.message_type_id ∷ r.message_stream_id ∷ []

-- the number of the type of a row is a byte, so that the row, put over itself, stays
abbrev pub is_own : (rows : List ℕ) → (i : ℕ) → Bool
is_own rows i = ltb (get_or rows (start i + 4) 0) 256

-- the table in which the row at a place counts as used, and so do those before it
unfoldable pub counted : (rows : List ℕ) → (i : ℕ) → List ℕ
counted rows i = cond (ltb i (used rows)) rows (set rows count_at (suc i))

unfoldable pub put_row : (rows : List ℕ) → (i : ℕ) → Row → List ℕ
unfolding counted
put_row rows i r = sets (counted rows i) (start i) (numbers r)

-- a row put at a place, where the table has one
abbrev pub put_at : (rows : List ℕ) → (place : ℕ) → Row → List ℕ
put_at rows place r = cond (ltb place row_count) (put_row rows place r) rows

-- the row of that id, searched from the newest row back; 64 where there is none
unfoldable pub find : (rows : List ℕ) → (id : ℕ) → ℕ
unfolding seek_last
find rows id = seek_last (used rows) (id_at rows) id row_count

-- the first free row, the one after those used; 64 where all are used
unfoldable pub free : List ℕ → ℕ
free rows = used rows

-- the row at a place; an empty one where the table has none there
abbrev pub row_or_empty : (rows : List ℕ) → (place : ℕ) → Row
row_or_empty rows place = cond (ltb place row_count) (row_at rows place) (claimed 0)

-- the row of a stream, where it has one
abbrev pub own_row : (rows : List ℕ) → (id : ℕ) → Option Row
own_row rows id = cond (ltb (find rows id) row_count) (some (row_at rows (find rows id))) none

-- the table after a chunk of a stream: its row in its own place, or in the first free one, which it claims
abbrev pub claimed_in : (rows : List ℕ) → (id : ℕ) → List ℕ
claimed_in rows id = cond (ltb (find rows id) row_count) rows (put_row rows (free rows) (claimed id))

abbrev pub place_of : (rows : List ℕ) → (id : ℕ) → ℕ
place_of rows id = cond (ltb (find rows id) row_count) (find rows id) (free rows)

abbrev pub put_own : (rows : List ℕ) → (id : ℕ) → Row → List ℕ
put_own rows id r = put_at (claimed_in rows id) (place_of rows id) r

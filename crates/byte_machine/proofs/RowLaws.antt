-- What putting a row changes and what a search finds: a row is six numbers of its own, only the rows counted are searched, and a row that is put is counted.
use Rattle.std.proofs.Common.{◌≡◌, ℕ, zero, suc, ◌+◌, ◌%◌, ◌<◌, ◌≤◌, min, Bool, true, false, cond, eqb, ltb, ◌≢◌, List, [], ◌∷◌, length, get_or, set, sym, refl, ap, ◌∙◌, subst, not-suc-le-zero, add-zero, mod-eq_of_lt, arith, length-set, get_or-set_other, get_or-set_same, ltb-false, ltb-true, le-ltb, lt-ltb, ne_eqb, eqb-true}
use lib.ListN.{get_or-replicate, length-replicate}
use lib.Seq.{sets, length-sets, set-get_or}
use borrow.Author.Tests.{eqb-false}
use Rattle.fields.specs.Search.{seek_last}
use Rattle.fields.proofs.Search.{last_among, last_is, last_none, last_passes, last_same, last_tells}
use Rattle.chunk_meaning.specs.Stored.{Row, claimed}
use Rattle.byte_machine.specs.Rows.{count_at, counted, empty_table, find, free, id_at, is_own, numbers, put_row, row_at, row_count, row_length, row_or_empty, start, table_length, used}

-- the row at a place of the table
pub in_table : (rows : List ℕ) (place : ℕ) → place < row_count → row_or_empty rows place ≡ row_at rows place
in_table rows place less = rw (lt-ltb place row_count less)

-- a number outside a run of stores stays, before it and after it
get_d_before : (vs l : List ℕ) (i j : ℕ) → j < i → get_or (sets l i vs) j 0 ≡ get_or l j 0
get_d_before [] l i j h = refl
get_d_before (v ∷ vs) l i j h =
    let n : j ≢ i = λ e. omega arith in
    get_d_before vs (set l i v) (suc i) j (omega arith) ∙ get_or-set_other l i j v 0 n

get_d_after : (vs l : List ℕ) (i j : ℕ) → i + length vs ≤ j → get_or (sets l i vs) j 0 ≡ get_or l j 0
get_d_after [] l i j h = refl
get_d_after (v ∷ vs) l i j h =
    let n : j ≢ i = λ e. omega arith in
    get_d_after vs (set l i v) (suc i) j (omega arith) ∙ get_or-set_other l i j v 0 n

-- a number within it is the one stored there
get_d_in : (vs l : List ℕ) (i k : ℕ) → k < length vs → i + length vs ≤ length l → get_or (sets l i vs) (i + k) 0 ≡ get_or vs k 0
get_d_in [] l i k h f = absurd (not-suc-le-zero h)
get_d_in (v ∷ vs) l i zero h f =
    let e : i + 0 ≡ i = omega arith in
    rw e (get_d_before vs (set l i v) (suc i) i (omega arith) ∙ get_or-set_same l i v 0 (omega arith))
get_d_in (v ∷ vs) l i (suc k) h f =
    let e : i + suc k ≡ suc i + k = omega arith in
    rw e (get_d_in vs (set l i v) (suc i) k (omega arith) (rw length-set (omega arith)))

-- counting a row changes the count alone
counted_length : (rows : List ℕ) (i : ℕ) → length (counted rows i) ≡ length rows
unfolding counted
counted_length rows i = by_test (ltb i (used rows))
  where
    by_test : (t : Bool) → length (cond t rows (set rows count_at (suc i))) ≡ length rows
    by_test true = refl
    by_test false = length-set rows count_at (suc i)

counted_number : (rows : List ℕ) (i j : ℕ) → count_at ≢ j → get_or (counted rows i) j 0 ≡ get_or rows j 0
unfolding counted
counted_number rows i j n = by_test (ltb i (used rows))
  where
    by_test : (t : Bool) → get_or (cond t rows (set rows count_at (suc i))) j 0 ≡ get_or rows j 0
    by_test true = refl
    by_test false = get_or-set_other rows count_at j (suc i) 0 (λ e. n (sym e))

-- putting a row keeps the table's length
pub length_put_row : (rows : List ℕ) (i : ℕ) (r : Row) → length (put_row rows i r) ≡ length rows
unfolding put_row
length_put_row rows i r = length-sets (counted rows i) (start i) (numbers r) ∙ counted_length rows i

-- the numbers of the row that was put
put_number : (rows : List ℕ) (i k : ℕ) (r : Row) → length rows ≡ table_length → i < row_count → k < row_length → get_or (put_row rows i r) (start i + k) 0 ≡ get_or (numbers r) k 0
unfolding put_row
put_number rows i k r l h f = let m = counted_length rows i in get_d_in (numbers r) (counted rows i) (start i) k f (omega arith)

-- the numbers of another row
other_number : (rows : List ℕ) (i j k : ℕ) (r : Row) → i ≢ j → j < row_count → k < row_length → get_or (put_row rows i r) (start j + k) 0 ≡ get_or rows (start j + k) 0
unfolding put_row
other_number rows i j k r n b f = by_cases (ltb j i) refl ∙ counted_number rows i (start j + k) (λ e. omega arith)
  where
    by_cases : (t : Bool) → ltb j i ≡ t → get_or (sets (counted rows i) (start i) (numbers r)) (start j + k) 0 ≡ get_or (counted rows i) (start j + k) 0
    by_cases true e = let s = ltb-true j i e in get_d_before (numbers r) (counted rows i) (start i) (start j + k) (omega arith)
    by_cases false e =
        let s = ltb-false j i e in
        get_d_after (numbers r) (counted rows i) (start i) (start j + k) (omega arith)

-- the id of the row that was put, and of another row
pub id_put : (rows : List ℕ) (i : ℕ) (r : Row) → length rows ≡ table_length → i < row_count → id_at (put_row rows i r) i ≡ r.id
id_put rows i r l h = let e : start i + 0 ≡ start i = omega arith in rw e at (put_number rows i 0 r l h (omega arith))

pub id_other : (rows : List ℕ) (i j : ℕ) (r : Row) → i ≢ j → j < row_count → id_at (put_row rows i r) j ≡ id_at rows j
id_other rows i j r n b = let e : start j + 0 ≡ start j = omega arith in rw e at (other_number rows i j 0 r n b (omega arith))

-- the row that was put is read back
pub row_put : (rows : List ℕ) (i : ℕ) (r : Row) → length rows ≡ table_length → i < row_count → r.message_type_id < 256 → row_at (put_row rows i r) i ≡ r
row_put rows i r l h t =
    rw (
      id_put rows i r l h,
      put_number rows i 1 r l h (omega arith),
      put_number rows i 2 r l h (omega arith),
      put_number rows i 3 r l h (omega arith),
      put_number rows i 4 r l h (omega arith),
      put_number rows i 5 r l h (omega arith),
      mod-eq_of_lt t,
    )

-- another row stays as it was
pub row_other : (rows : List ℕ) (i j : ℕ) (r : Row) → i ≢ j → j < row_count → row_at (put_row rows i r) j ≡ row_at rows j
row_other rows i j r n b =
    rw (
      id_other rows i j r n b,
      other_number rows i j 1 r n b (omega arith),
      other_number rows i j 2 r n b (omega arith),
      other_number rows i j 3 r n b (omega arith),
      other_number rows i j 4 r n b (omega arith),
      other_number rows i j 5 r n b (omega arith),
    )

-- the length that the row that was put says
pub length_put : (rows : List ℕ) (i : ℕ) (r : Row) → length rows ≡ table_length → i < row_count → (row_at (put_row rows i r) i).message_length ≡ r.message_length
length_put rows i r l h = put_number rows i 3 r l h (omega arith)

-- numbers stored over themselves
sets_same : (vs l : List ℕ) (i : ℕ) → ((k : ℕ) → k < length vs → get_or vs k 0 ≡ get_or l (i + k) 0) → sets l i vs ≡ l
sets_same [] l i h = refl
sets_same (v ∷ vs) l i h =
    let e : v ≡ get_or l i 0 = rw (add-zero i) at (h 0 (omega arith)) in
    let s : set l i v ≡ l = (rw e) ∙ set-get_or l i 0 in
    (rw s) ∙ sets_same vs l (suc i) (λ k f. h (suc k) (omega arith) ∙ ap (λ (j : ℕ). get_or l j 0) (omega arith))

-- the rows that are used: no more than there are
pub used_most : (rows : List ℕ) → used rows ≤ row_count
used_most rows = omega arith

pub free_used : (rows : List ℕ) → free rows ≡ used rows
unfolding free
free_used rows = refl

pub free_within : (rows : List ℕ) → free rows ≤ row_count
unfolding free
free_within rows = used_most rows

-- a search finds one of them, which has the id
pub find_used : (rows : List ℕ) (id : ℕ) → find rows id < row_count → find rows id < used rows
unfolding find
find_used rows id h = last_among (used rows) (id_at rows) id row_count h

pub find_tells : (rows : List ℕ) (id : ℕ) → find rows id < row_count → id_at rows (find rows id) ≡ id
unfolding find
find_tells rows id h = last_tells (used rows) (id_at rows) id row_count h

-- where none is found, none of them has the id
find_none : (rows : List ℕ) (id j : ℕ) → row_count ≤ find rows id → j < used rows → id_at rows j ≢ id
unfolding find
find_none rows id j h k = last_none (used rows) (id_at rows) id row_count j (used_most rows) h k

-- one of that id is found
pub found : (rows : List ℕ) (id p : ℕ) → p < used rows → id_at rows p ≡ id → find rows id < row_count
found rows id p h e = by_cases (ltb (find rows id) row_count) refl
  where
    by_cases : (t : Bool) → ltb (find rows id) row_count ≡ t → find rows id < row_count
    by_cases true f = ltb-true _ _ f
    by_cases false f = absurd (find_none rows id p (ltb-false _ _ f) h e)

-- a row that a search found, put over itself, leaves the table
pub put_own_lem : (rows : List ℕ) (p id : ℕ) → p ≡ find rows id → p < row_count → is_own rows p ≡ true → put_row rows p (row_at rows p) ≡ rows
unfolding put_row counted
put_own_lem rows p id e f h = rw (lt-ltb p (used rows) (rw e (find_used rows id (rw e at f)))) (sets_same (numbers (row_at rows p)) rows (start p) own)
  where
    small : get_or rows (start p + 4) 0 % 256 ≡ get_or rows (start p + 4) 0
    small = mod-eq_of_lt (ltb-true (get_or rows (start p + 4) 0) 256 h)

    own : (k : ℕ) → k < row_length → get_or (numbers (row_at rows p)) k 0 ≡ get_or rows (start p + k) 0
    own zero f = rw (add-zero (start p))
    own (suc zero) f = refl
    own (suc (suc zero)) f = refl
    own (suc (suc (suc zero))) f = refl
    own (suc (suc (suc (suc zero)))) f = small
    own (suc (suc (suc (suc (suc zero))))) f = refl
    own (suc (suc (suc (suc (suc (suc k)))))) f = absurd (omega arith)

-- no two rows that are used have one id
abbrev pub Distinct : List ℕ → Type 0
Distinct rows = (i j : ℕ) → i < used rows → j < used rows → id_at rows i ≡ id_at rows j → i ≡ j

-- the row at a place is used, and by this id
pub record Owns (rows : List ℕ) (place id : ℕ) : Type 0 where
  pub inside : place < used rows
  pub own : id_at rows place ≡ id
  pub used : id ≢ 0

pub owns_within : {rows : List ℕ} {place id : ℕ} → Owns rows place id → place < row_count
owns_within {rows} o = omega (arith, o.inside, used_most rows)

-- so it is of a row that is found, and an id that has a row is found
pub found_owns : (rows : List ℕ) (id : ℕ) → id ≢ 0 → find rows id < row_count → Owns rows (find rows id) id
found_owns rows id n h = record { inside = find_used rows id h; own = find_tells rows id h; used = n }

pub owns_found : {rows : List ℕ} {place id : ℕ} → Owns rows place id → find rows id < row_count
owns_found {rows} {place} {id} o = found rows id place o.inside o.own

-- where no id is twice, the row that has it is found
find_distinct : {rows : List ℕ} {p id : ℕ} → Distinct rows → Owns rows p id → find rows id ≡ p
unfolding find
find_distinct {rows} {p} {id} d o =
    last_is (used rows) (id_at rows) id row_count p o.inside o.own
    (λ j more k q. let same = d p j o.inside k (o.own ∙ sym q) in omega (arith, more, same))

-- no row that is used but the one at p has the id
abbrev Alone : List ℕ → ℕ → ℕ → Type 0
Alone rows id p = (j : ℕ) → j < used rows → j ≢ p → id_at rows j ≢ id

-- so it is where the row at p has it already, and where no row has it
alone_there : {rows : List ℕ} {p id : ℕ} → Distinct rows → Owns rows p id → Alone rows id p
alone_there {rows} {p} {id} d o j k m q = m (sym (d p j o.inside k (o.own ∙ sym q)))

alone_none : (rows : List ℕ) (id p : ℕ) → row_count ≤ find rows id → Alone rows id p
alone_none rows id p h j k m = find_none rows id j h k

-- a table in which a row is put
module _ (rows : List ℕ) (p : ℕ) (r : Row) (l : length rows ≡ table_length) (h : p < row_count) where
  abbrev rows' : List ℕ
  rows' = put_row rows p r

  -- the row counts as used
  count_put : get_or rows' count_at 0 ≡ get_or (counted rows p) count_at 0
  unfolding put_row
  count_put = get_d_after (numbers r) (counted rows p) (start p) count_at (omega (arith, h))

  pub used_own : p < used rows → used rows' ≡ used rows
  unfolding counted
  used_own k = let e : get_or rows' count_at 0 ≡ get_or rows count_at 0 = count_put ∙ (rw (lt-ltb p (used rows) k)) in rw e

  pub used_new : used rows ≤ p → used rows' ≡ suc p
  unfolding counted
  used_new k =
      let e : get_or rows' count_at 0 ≡ suc p = count_put ∙ (rw (le-ltb p (used rows) k)) ∙ get_or-set_same rows count_at (suc p) 0 (omega (arith, l)) in
      omega (arith, e, h)

  by_count : (P : ℕ → Type 0) → (p < used rows → P (used rows)) → (used rows ≤ p → P (suc p)) → P (used rows')
  by_count P own new = by_test (ltb p (used rows)) refl
    where
      by_test : (t : Bool) → ltb p (used rows) ≡ t → P (used rows')
      by_test true e = let k = ltb-true p (used rows) e in subst P (sym (used_own k)) (own k)
      by_test false e = let k = ltb-false p (used rows) e in subst P (sym (used_new k)) (new k)

  used_here : p < used rows'
  used_here = by_count (λ n. p < n) (λ k. k) (λ k. omega arith)

  used_more : (i : ℕ) → i < used rows → i < used rows'
  used_more i less = by_count (λ n. i < n) (λ k. less) (λ k. omega (arith, less, k))

  -- where it is put over one that is used, or over the first free one, no other does
  used_less : p ≤ used rows → (i : ℕ) → i < used rows' → p ≢ i → i < used rows
  used_less most i = by_count (λ n. i < n → p ≢ i → i < used rows) (λ k less n. less) (λ k less n. omega (arith, less, n, k, most))

  -- ids that are distinct stay so
  distinct_put : p ≤ used rows → Distinct rows → Alone rows r.id p → Distinct rows'
  distinct_put most d a i j f g q = by_cases (eqb p i) (eqb p j) refl refl
    where
      inside : (k : ℕ) → k < used rows' → k < row_count
      inside k less = omega (arith, less, used_most rows')

      by_cases : (t u : Bool) → eqb p i ≡ t → eqb p j ≡ u → i ≡ j
      by_cases true true x y = sym (eqb-true p i x) ∙ eqb-true p j y
      by_cases true false x y =
          let b = eqb-false p j y in
          let e : id_at rows' i ≡ r.id = rw (← eqb-true p i x) (id_put rows p r l h) in
          absurd (a j (used_less most j g b) (λ z. b (sym z)) (sym (id_other rows p j r b (inside j g)) ∙ sym q ∙ e))
      by_cases false true x y =
          let b = eqb-false p i x in
          let e : id_at rows' j ≡ r.id = rw (← eqb-true p j y) (id_put rows p r l h) in
          absurd (a i (used_less most i f b) (λ z. b (sym z)) (sym (id_other rows p i r b (inside i f)) ∙ q ∙ e))
      by_cases false false x y =
          let b = eqb-false p i x in
          let c = eqb-false p j y in
          let v = id_other rows p i r b (inside i f) in
          let w = id_other rows p j r c (inside j g) in
          d i j (used_less most i f b) (used_less most j g c) (sym v ∙ q ∙ w)

  -- the row that is put is found at its place
  pub find_here : Distinct rows' → r.id ≢ 0 → find rows' r.id ≡ p
  find_here d n = find_distinct d (record { inside = used_here; own = id_put rows p r l h; used = n })

  -- an id that neither it nor a used row that it replaces has is found where it was
  pub find_other : (id : ℕ) → p ≤ used rows → (p < used rows → id_at rows p ≢ id) → r.id ≢ id → find rows' id ≡ find rows id
  unfolding find
  find_other id most m n = by_count (λ k. seek_last k (id_at rows') id row_count ≡ seek_last (used rows) (id_at rows) id row_count) over after
    where
      below : (j : ℕ) → j < used rows → p ≢ j → eqb (id_at rows' j) id ≡ eqb (id_at rows j) id
      below j less k = rw (id_other rows p j r k (omega (arith, less, used_most rows)))

      over : p < used rows → seek_last (used rows) (id_at rows') id row_count ≡ seek_last (used rows) (id_at rows) id row_count
      over k = last_same (used rows) (id_at rows') (id_at rows) id row_count (λ j less. by_place j less (eqb p j) refl)
        where
          by_place : (j : ℕ) → j < used rows → (t : Bool) → eqb p j ≡ t → eqb (id_at rows' j) id ≡ eqb (id_at rows j) id
          by_place j less true e = rw (← eqb-true p j e, id_put rows p r l h, ne_eqb r.id id n, ne_eqb (id_at rows p) id (m k))
          by_place j less false e = below j less (eqb-false p j e)

      after : used rows ≤ p → seek_last (suc p) (id_at rows') id row_count ≡ seek_last (used rows) (id_at rows) id row_count
      after k =
          let e : p ≡ used rows = omega (arith, k, most) in
          last_passes p (id_at rows') id row_count (rw (id_put rows p r l h) n)
          ∙ ap (λ (c : ℕ). seek_last c (id_at rows') id row_count) e
          ∙ last_same (used rows) (id_at rows') (id_at rows) id row_count (λ j less. below j less (λ z. omega (arith, z, less, k)))

  -- an id that has a row keeps it, unless its row is replaced by that of another id
  put_found : (id : ℕ) → (p < used rows → id_at rows p ≡ id → r.id ≡ id) → find rows id < row_count → find rows' id < row_count
  put_found id same f = by_cases (eqb p (find rows id)) refl
    where
      by_cases : (t : Bool) → eqb p (find rows id) ≡ t → find rows' id < row_count
      by_cases true e =
          let z = eqb-true p (find rows id) e in
          found rows' id p used_here (id_put rows p r l h ∙ same (rw z (find_used rows id f)) (rw z (find_tells rows id f)))
      by_cases false e =
          found rows' id (find rows id) (used_more (find rows id) (find_used rows id f)) (id_other rows p (find rows id) r (eqb-false _ _ e) f ∙ find_tells rows id f)

-- a row put over its own: every id that had a row has one
module _ (rows : List ℕ) (p : ℕ) (r : Row) (l : length rows ≡ table_length) (d : Distinct rows) (o : Owns rows p r.id) where
  pub own_distinct : Distinct (put_row rows p r)
  own_distinct = distinct_put rows p r l (owns_within o) (omega (arith, o.inside)) d (alone_there d o)

  pub own_owns : Owns (put_row rows p r) p r.id
  own_owns = record { inside = used_here rows p r l (owns_within o); own = id_put rows p r l (owns_within o); used = o.used }

  pub own_found : (id : ℕ) → find rows id < row_count → find (put_row rows p r) id < row_count
  own_found id f = put_found rows p r l (owns_within o) id (λ k e. sym o.own ∙ e) f

-- a row that claims the first free one, of an id that has none yet
module _ (rows : List ℕ) (id : ℕ) (l : length rows ≡ table_length) (n : id ≢ 0) (none_yet : row_count ≤ find rows id) (some_free : free rows < row_count) where
  pub new_distinct : Distinct rows → Distinct (put_row rows (free rows) (claimed id))
  unfolding free
  new_distinct d = distinct_put rows (free rows) (claimed id) l some_free (omega arith) d (alone_none rows id (free rows) none_yet)

  pub new_owns : Owns (put_row rows (free rows) (claimed id)) (free rows) id
  new_owns = record { inside = used_here rows (free rows) (claimed id) l some_free; own = id_put rows (free rows) (claimed id) l some_free; used = n }

  pub new_found : (j : ℕ) → j ≢ 0 → find rows j < row_count → find (put_row rows (free rows) (claimed id)) j < row_count
  unfolding free
  new_found j z f = put_found rows (free rows) (claimed id) l some_free j (λ k. absurd (omega (arith, k))) f

-- the empty table: no id has a row
pub id_empty : (i : ℕ) → i < row_count → id_at empty_table i ≡ 0
id_empty i h = get_or-replicate {A = ℕ} table_length (start i) 0 0 (omega arith)

pub long_empty : length empty_table ≡ table_length
long_empty = length-replicate {A = ℕ} table_length 0

none_used : used empty_table ≡ 0
none_used = ap (λ (n : ℕ). min n row_count) (get_or-replicate {A = ℕ} table_length count_at 0 0 (omega arith))

pub free_empty : free empty_table ≡ 0
unfolding free
free_empty = none_used

pub distinct_empty : Distinct empty_table
distinct_empty i j h k e = absurd (omega (arith, h, none_used))

pub find_empty : (id : ℕ) → id ≢ 0 → ltb (find empty_table id) row_count ≡ false
find_empty id n = by_test (ltb (find empty_table id) row_count) refl
  where
    by_test : (t : Bool) → ltb (find empty_table id) row_count ≡ t → ltb (find empty_table id) row_count ≡ false
    by_test true e = absurd (omega (arith, find_used empty_table id (ltb-true (find empty_table id) row_count e), none_used))
    by_test false e = e

-- What putting a stream's row does to a table: that stream has the row, every other one what it had, and the ids stand in the order in which they claimed.
use Rattle.std.proofs.Common.{◌≡◌, ℕ, zero, suc, ◌<◌, ◌≤◌, Bool, true, false, cond, eqb, ltb, ◌≢◌, ◌⊎◌, List, [], ◌∷◌, ◌++◌, length, get_or, sym, refl, ap, ◌∙◌, inl, inr, arith, length-append, ltb-false, ltb-true, lt-ltb, eqb-true}
use mathlib.Core.Option.{some}
use borrow.Author.Tests.{eqb-false}
use Rattle.fields.specs.Cases.{among}
use Rattle.fields.specs.Search.{seek_first}
use Rattle.fields.proofs.Search.{either_way, first_is, first_tells, first_within, last_shorter}
use Rattle.fields.proofs.Tests.{Decides, equal, in_words, less, never, one_of, same_test}
use Rattle.chunk_meaning.specs.Stored.{Row, claimed}
use Rattle.byte_machine.specs.Rows.{empty_table, find, free, id_at, own_row, put_own, put_row, row_count, table_length, used}
use Rattle.byte_machine.proofs.RowLaws.{Distinct, Owns, find_here, find_other, find_tells, find_used, found, found_owns, free_empty, free_used, id_empty, id_other, id_put, length_put_row, new_distinct, own_distinct, row_other, row_put, used_most, used_new, used_own}

-- an id that neither the row put nor a used one that it replaces has
own_other : (rows : List ℕ) (p : ℕ) (row : Row) (j : ℕ) → length rows ≡ table_length → p < row_count → p ≤ used rows → (p < used rows → id_at rows p ≢ j) → row.id ≢ j
    → own_row (put_row rows p row) j ≡ own_row rows j
own_other rows p row j l h most n m = by_row (ltb (find rows j) row_count) refl
  where
    f : find (put_row rows p row) j ≡ find rows j
    f = find_other rows p row l h j most n m

    by_row : (t : Bool) → ltb (find rows j) row_count ≡ t → own_row (put_row rows p row) j ≡ own_row rows j
    by_row true e =
        let k : find rows j < row_count = ltb-true _ _ e in
        let q : p ≢ find rows j = λ z. n (rw z (find_used rows j k)) (rw z (find_tells rows j k)) in
        rw (f, e) (ap some (row_other rows p (find rows j) row q k))
    by_row false e = rw (f, e)

-- the table holds these ids in this order, and is free after them
pub record Lists (rows ids : List ℕ) : Type 0 where
  pub count : free rows ≡ length ids
  pub each : (i : ℕ) → i < row_count → id_at rows i ≡ get_or ids i 0
  pub used : (i : ℕ) → i < length ids → get_or ids i 0 ≢ 0
  pub most : length ids ≤ row_count

beyond : (ids : List ℕ) (i : ℕ) → length ids ≤ i → get_or ids i 0 ≡ 0
beyond [] i h = refl
beyond (x ∷ ids) zero h = absurd (omega arith)
beyond (x ∷ ids) (suc i) h = beyond ids i (omega arith)

last_one : (ids : List ℕ) (id : ℕ) → get_or (ids ++ (id ∷ [])) (length ids) 0 ≡ id
last_one [] id = refl
last_one (x ∷ ids) id = last_one ids id

not_last : (ids : List ℕ) (id i : ℕ) → length ids ≢ i → get_or (ids ++ (id ∷ [])) i 0 ≡ get_or ids i 0
not_last [] id zero n = absurd (n refl)
not_last [] id (suc i) n = refl
not_last (x ∷ ids) id zero n = refl
not_last (x ∷ ids) id (suc i) n = not_last ids id i (λ e. n (ap suc e))

-- the first free row is the one after them
pub free_after : {rows ids : List ℕ} → Lists rows ids → length ids < row_count → free rows ≡ length ids
free_after l h = l.count

pub free_none : {rows ids : List ℕ} → Lists rows ids → free rows < row_count → length ids < row_count
free_none l h = omega (arith, h, l.count)

-- the empty table holds none
pub lists_empty : Lists empty_table []
lists_empty = record { count = free_empty; each = id_empty; used = λ i k. absurd (omega arith); most = omega arith }

-- in such a table the search from the first of all rows on finds the same row, and the first row of id 0 is the first free one
module _ {rows ids : List ℕ} (l : Lists rows ids) where
  after_used : (i : ℕ) → used rows ≤ i → i < row_count → id_at rows i ≡ 0
  after_used i h less = l.each i less ∙ beyond ids i (omega (arith, h, l.count, free_used rows))

  below_used : (i : ℕ) → i < used rows → id_at rows i ≢ 0
  below_used i h e = l.used i (omega (arith, h, l.count, free_used rows)) (sym (l.each i (omega (arith, h))) ∙ e)

  pub find_from_first : (id : ℕ) → id ≢ 0 → Distinct rows → find rows id ≡ seek_first row_count 0 (id_at rows) id row_count
  unfolding find
  find_from_first id n d =
      sym (last_shorter row_count (used rows) (id_at rows) id row_count (used_most rows) (λ j h k e. n (sym e ∙ after_used j h k)))
      ∙ sym (either_way row_count (id_at rows) id row_count (omega arith) (λ i j h k e f. d i j (is_used i h e) (is_used j k f) (e ∙ sym f)))
    where
      is_used : (i : ℕ) → i < row_count → id_at rows i ≡ id → i < used rows
      is_used i less e = by_test (ltb i (used rows)) refl
        where
          by_test : (t : Bool) → ltb i (used rows) ≡ t → i < used rows
          by_test true q = ltb-true _ _ q
          by_test false q = absurd (n (sym e ∙ after_used i (ltb-false _ _ q) less))

  pub free_from_first : free rows ≡ seek_first row_count 0 (id_at rows) 0 row_count
  free_from_first = free_used rows ∙ by_test (ltb (used rows) row_count) (ltb (seek_first row_count 0 (id_at rows) 0 row_count) row_count) refl refl
    where
      by_test : (t u : Bool) → ltb (used rows) row_count ≡ t → ltb (seek_first row_count 0 (id_at rows) 0 row_count) row_count ≡ u
          → used rows ≡ seek_first row_count 0 (id_at rows) 0 row_count
      by_test true u e f =
          let h : used rows < row_count = ltb-true _ _ e in
          sym (first_is row_count 0 (id_at rows) 0 row_count (used rows) (omega arith) h (after_used (used rows) (omega arith) h) below_used)
      by_test false true e f =
          let h : seek_first row_count 0 (id_at rows) 0 row_count < row_count = ltb-true _ _ f in
          absurd (below_used (seek_first row_count 0 (id_at rows) 0 row_count) (omega (arith, h, ltb-false (used rows) row_count e)) (first_tells row_count 0 (id_at rows) 0 row_count h))
      by_test false false e f =
          omega (arith, ltb-false (used rows) row_count e, ltb-false (seek_first row_count 0 (id_at rows) 0 row_count) row_count f, used_most rows, first_within row_count 0 (id_at rows) 0 row_count (omega arith))

-- a row is found where its id is one of them
abbrev Holds : (ids : List ℕ) → (id : ℕ) → Type 0
Holds ids id = (i : ℕ) × ((i < length ids) × (get_or ids i 0 ≡ id))

among_holds : (ids : List ℕ) (id : ℕ) → Decides (among id ids) (Holds ids id)
among_holds [] id = record { yes = λ e. never e; no = λ e h. let k = h.1.0 in omega arith }
among_holds (x ∷ ids) id = in_words (to, from) (one_of (equal id x) (among_holds ids id))
  where
    to : (id ≡ x) ⊎ Holds ids id → Holds (x ∷ ids) id
    to (inl e) = (0, (omega arith, sym e))
    to (inr h) = (suc h.0, (omega (arith, h.1.0), h.1.1))

    from : Holds (x ∷ ids) id → (id ≡ x) ⊎ Holds ids id
    from h = at h.0 h.1.0 h.1.1
      where
        at : (i : ℕ) → i < length (x ∷ ids) → get_or (x ∷ ids) i 0 ≡ id → (id ≡ x) ⊎ Holds ids id
        at zero k e = inl (sym e)
        at (suc i) k e = inr (i, (omega (arith, k), e))

pub found_among : {rows ids : List ℕ} (id : ℕ) → Lists rows ids → id ≢ 0 → ltb (find rows id) row_count ≡ among id ids
found_among {rows} {ids} id l n = same_test (in_words (to, from) (less (find rows id) row_count)) (among_holds ids id)
  where
    to : find rows id < row_count → Holds ids id
    to h =
        let e : get_or ids (find rows id) 0 ≡ id = sym (l.each (find rows id) h) ∙ find_tells rows id h in
        (find rows id, (by_length (ltb (find rows id) (length ids)) refl e, e))
      where
        by_length : (t : Bool) → ltb (find rows id) (length ids) ≡ t → get_or ids (find rows id) 0 ≡ id → find rows id < length ids
        by_length true q e = ltb-true _ _ q
        by_length false q e = absurd (n (sym e ∙ beyond ids (find rows id) (ltb-false _ _ q)))

    from : Holds ids id → find rows id < row_count
    from h =
        let k : h.0 < row_count = omega (arith, h.1.0, l.most) in
        found rows id h.0 (omega (arith, h.1.0, free_used rows, l.count)) (l.each h.0 k ∙ h.1.1)

-- a table to which a stream's row was put
pub record Puts (rows : List ℕ) (id : ℕ) (row : Row) (rows' : List ℕ) : Type 0 where
  pub mine : own_row rows' id ≡ some row
  pub others : (j : ℕ) → j ≢ 0 → j ≢ id → own_row rows' j ≡ own_row rows j
  pub lists : {ids : List ℕ} → Lists rows ids → Lists rows' (cond (among id ids) ids (ids ++ (id ∷ [])))

-- over its own
module _ (rows : List ℕ) (row : Row) (l : length rows ≡ table_length) (d : Distinct rows) (n : row.id ≢ 0) (h : find rows row.id < row_count) where
  abbrev place : ℕ
  place = find rows row.id

  there : id_at rows place ≡ row.id
  there = find_tells rows row.id h

  owns : Owns rows place row.id
  owns = found_owns rows row.id n h

  known_own : row.message_type_id < 256 → own_row (put_row rows place row) row.id ≡ some row
  known_own t =
      rw (find_here rows place row l h (own_distinct rows place row l d owns) n, lt-ltb place row_count h) (ap some (row_put rows place row l h t))

  known_other : (j : ℕ) → j ≢ row.id → own_row (put_row rows place row) j ≡ own_row rows j
  known_other j m = own_other rows place row j l h (omega (arith, owns.inside)) (λ k e. m (sym e ∙ there)) (λ e. m (sym e))

  known_lists : {ids : List ℕ} → Lists rows ids → Lists (put_row rows place row) ids
  known_lists {ids} k = record { count = counts; each = λ i less. by_place i less (eqb place i) refl; used = k.used; most = k.most }
    where
      by_place : (i : ℕ) → i < row_count → (t : Bool) → eqb place i ≡ t → id_at (put_row rows place row) i ≡ get_or ids i 0
      by_place i less true e = rw (← eqb-true place i e) (id_put rows place row l h ∙ sym there ∙ k.each place h)
      by_place i less false e = id_other rows place i row (eqb-false place i e) less ∙ k.each i less

      counts : free (put_row rows place row) ≡ length ids
      counts = free_used (put_row rows place row) ∙ used_own rows place row l h owns.inside ∙ sym (free_used rows) ∙ k.count

-- over a free one
module _ (rows : List ℕ) (id : ℕ) (l : length rows ≡ table_length) (d : Distinct rows) (n : id ≢ 0) (none_yet : row_count ≤ find rows id) (some_free : free rows < row_count) where
  abbrev claims : List ℕ
  claims = put_row rows (free rows) (claimed id)

  claim_distinct : Distinct claims
  claim_distinct = new_distinct rows id l n none_yet some_free d

  claim_found : find claims id ≡ free rows
  claim_found = find_here rows (free rows) (claimed id) l some_free claim_distinct n

  claim_other : (j : ℕ) → j ≢ 0 → j ≢ id → own_row claims j ≡ own_row rows j
  claim_other j z m = own_other rows (free rows) (claimed id) j l some_free (omega (arith, free_used rows)) (λ k. absurd (omega (arith, k, free_used rows))) (λ q. m (sym q))

  claim_lists : {ids : List ℕ} → Lists rows ids → Lists claims (ids ++ (id ∷ []))
  claim_lists {ids} k = record { count = counts; each = each; used = used; most = rw (length-append ids (id ∷ [])) (omega (arith, free_none k some_free)) }
    where
      last : free rows ≡ length ids
      last = free_after k (free_none k some_free)

      counts : free claims ≡ length (ids ++ (id ∷ []))
      counts =
          free_used claims ∙ used_new rows (free rows) (claimed id) l some_free (omega (arith, free_used rows)) ∙ ap suc k.count
          ∙ sym (length-append ids (id ∷ []) ∙ omega arith)

      each : (i : ℕ) → i < row_count → id_at claims i ≡ get_or (ids ++ (id ∷ [])) i 0
      each i less = by_place (eqb (length ids) i) refl
        where
          by_place : (t : Bool) → eqb (length ids) i ≡ t → id_at claims i ≡ get_or (ids ++ (id ∷ [])) i 0
          by_place true e = rw (← eqb-true (length ids) i e, last_one ids id, ← last) (id_put rows (free rows) (claimed id) l some_free)
          by_place false e =
              let m = eqb-false (length ids) i e in
              id_other rows (free rows) i (claimed id) (λ q. m (sym last ∙ q)) less ∙ k.each i less ∙ sym (not_last ids id i m)

      used : (i : ℕ) → i < length (ids ++ (id ∷ [])) → get_or (ids ++ (id ∷ [])) i 0 ≢ 0
      used i less = by_place (eqb (length ids) i) refl
        where
          by_place : (t : Bool) → eqb (length ids) i ≡ t → get_or (ids ++ (id ∷ [])) i 0 ≢ 0
          by_place true e = rw (← eqb-true (length ids) i e, last_one ids id) n
          by_place false e =
              let m = eqb-false (length ids) i e in
              rw (not_last ids id i m) (k.used i (omega (arith, m, less, length-append ids (id ∷ []))))

-- over its own, or over the first free one
puts_row : (rows : List ℕ) (row : Row) → length rows ≡ table_length → Distinct rows → row.id ≢ 0 → row.message_type_id < 256 → (row_count ≤ find rows row.id → free rows < row_count)
    → Puts rows row.id row (put_own rows row.id row)
puts_row rows row l d n t spare = by_row (ltb (find rows row.id) row_count) refl
  where
    by_row : (u : Bool) → ltb (find rows row.id) row_count ≡ u → Puts rows row.id row (put_own rows row.id row)
    by_row true e =
        let h = ltb-true _ _ e in
        rw (e, e) (record { mine = known_own rows row l d n h t; others = λ j z m. known_other rows row l d n h j m; lists = λ k. rw (← found_among row.id k n, e) (known_lists rows row l d n h k) })
    by_row false e =
        let none_yet = ltb-false _ _ e in
        let some_free = spare none_yet in
        let rows' = claims rows row.id l d n none_yet some_free in
        let f = claim_found rows row.id l d n none_yet some_free in
        let here : find rows' row.id < row_count = rw f some_free in
        let l' = length_put_row rows (free rows) (claimed row.id) ∙ l in
        let d' = claim_distinct rows row.id l d n none_yet some_free in
        rw (e, lt-ltb (free rows) row_count some_free)
        (record {
          mine = rw f at (known_own rows' row l' d' n here t);
          others = λ j z m. (rw f at (known_other rows' row l' d' n here j m)) ∙ claim_other rows row.id l d n none_yet some_free j z m;
          lists = λ k. rw (← found_among row.id k n, e) (rw f at (known_lists rows' row l' d' n here (claim_lists rows row.id l d n none_yet some_free k)));
        })

pub puts : (rows : List ℕ) (row : Row) (id : ℕ) → row.id ≡ id → length rows ≡ table_length → Distinct rows → id ≢ 0 → row.message_type_id < 256 → (row_count ≤ find rows id → free rows < row_count)
    → Puts rows id row (put_own rows id row)
puts rows row id e l d n t spare = rw (← e) (puts_row rows row l d (rw e n) t (rw e spare))

-- A free row is always left: the encoder's five chunk streams claim at most five.
use Rattle.std.proofs.Common.{ℕ, zero, suc, ◌+◌, ◌≤◌, ◌<◌, ◌≡◌, refl, ap, ◌∙◌, Bool, true, false, cond, ◌||◌, List, [], ◌∷◌, ◌++◌, arith, ltb, eqb, length, length-append, eqb-true}
use mathlib.Core.Option.{some, map}
use Rattle.fields.specs.Cases.{among}
use Rattle.byte_machine.specs.Rows.{find, free, own_row, row_count}
use Rattle.byte_machine.proofs.Putting.{Lists, free_after}
use Rattle.stream_meaning.specs.Stream.{Said}
use Rattle.stream_meaning.specs.View.{said_in}

-- a stream on which something was said has a row
pub seen_there : (rows : List ℕ) (id : ℕ) {said : Said} → map said_in (own_row rows id) ≡ some said → ltb (find rows id) row_count ≡ true
seen_there rows id h = by_row (ltb (find rows id) row_count) refl
  where
    by_row : (t : Bool) → ltb (find rows id) row_count ≡ t → ltb (find rows id) row_count ≡ true
    by_row true e = e
    by_row false e = absurd (let z = rw e at h in let q : ◌≡◌ {A = ℕ} 0 1 = cc in omega arith)

-- how many of the encoder's five chunk streams are among some ids
abbrev counts : (ids : List ℕ) → (id : ℕ) → ℕ
counts ids id = cond (among id ids) 1 0

abbrev tally : List ℕ → ℕ
tally ids = counts ids 2 + counts ids 3 + counts ids 4 + counts ids 5 + counts ids 6

counts_most : (ids : List ℕ) (id : ℕ) → counts ids id ≤ 1
counts_most ids id = by_test (among id ids)
  where
    by_test : (t : Bool) → cond t 1 0 ≤ 1
    by_test true = omega arith
    by_test false = omega arith

tally_most : (ids : List ℕ) → tally ids ≤ 5
tally_most ids = omega (arith, counts_most ids 2, counts_most ids 3, counts_most ids 4, counts_most ids 5, counts_most ids 6)

-- the ids that have claimed a row are no more than those of the five among them
pub record Spare (rows : List ℕ) : Type 0 where
  pub ids : List ℕ
  pub lists : Lists rows ids
  pub few : length ids ≤ tally ids

pub free_some : (rows : List ℕ) → Spare rows → free rows < row_count
free_some rows s =
    let l : length s.ids < row_count = omega (arith, s.few, tally_most s.ids) in
    omega (arith, free_after s.lists l, l)

-- one more of the five
one_of : (id : ℕ) → 2 ≤ id → id ≤ 6
    → cond (eqb 2 id) 1 0 + cond (eqb 3 id) 1 0 + cond (eqb 4 id) 1 0 + cond (eqb 5 id) 1 0 + cond (eqb 6 id) 1 0 ≡ 1
one_of zero p q = absurd (omega arith)
one_of (suc zero) p q = absurd (omega arith)
one_of (suc (suc zero)) p q = refl
one_of (suc (suc (suc zero))) p q = refl
one_of (suc (suc (suc (suc zero)))) p q = refl
one_of (suc (suc (suc (suc (suc zero))))) p q = refl
one_of (suc (suc (suc (suc (suc (suc zero)))))) p q = refl
one_of (suc (suc (suc (suc (suc (suc (suc n))))))) p q = absurd (omega arith)

among_last : (j id : ℕ) (ids : List ℕ) → among j (ids ++ (id ∷ [])) ≡ (among j ids || eqb j id)
among_last j id [] = by_test (eqb j id)
  where
    by_test : (t : Bool) → (t || false) ≡ t
    by_test true = refl
    by_test false = refl
among_last j id (x ∷ ids) = by_test (eqb j x) (among_last j id ids)
  where
    by_test : (t : Bool) → among j (ids ++ (id ∷ [])) ≡ (among j ids || eqb j id) → (t || among j (ids ++ (id ∷ []))) ≡ ((t || among j ids) || eqb j id)
    by_test true e = refl
    by_test false e = e

module _ (ids : List ℕ) (id : ℕ) (new : among id ids ≡ false) where
  counts_more : (j : ℕ) → counts (ids ++ (id ∷ [])) j ≡ counts ids j + cond (eqb j id) 1 0
  counts_more j = ap (λ (t : Bool). cond t 1 0) (among_last j id ids) ∙ by_tests (among j ids) (eqb j id) refl refl
    where
      by_tests : (t u : Bool) → among j ids ≡ t → eqb j id ≡ u → cond (t || u) 1 0 ≡ cond t 1 0 + cond u 1 0
      by_tests true true e f = absurd (let z = rw (eqb-true j id f, new) at e in let q : ◌≡◌ {A = ℕ} 0 1 = cc in omega arith)
      by_tests true false e f = refl
      by_tests false u e f = omega arith

  tally_more : 2 ≤ id → id ≤ 6 → tally (ids ++ (id ∷ [])) ≡ tally ids + 1
  tally_more p q = omega (arith, counts_more 2, counts_more 3, counts_more 4, counts_more 5, counts_more 6, one_of id p q)

-- so a free one is left after a row of one of the five was put
pub still_spare : {rows rows' : List ℕ} (id : ℕ) → 2 ≤ id → id ≤ 6 → (s : Spare rows) → Lists rows' (cond (among id s.ids) s.ids (s.ids ++ (id ∷ []))) → Spare rows'
still_spare {rows} {rows'} id p q s l = by_test (among id s.ids) refl l
  where
    by_test : (t : Bool) → among id s.ids ≡ t → Lists rows' (cond t s.ids (s.ids ++ (id ∷ []))) → Spare rows'
    by_test true e l = record { ids = s.ids; lists = l; few = s.few }
    by_test false e l = record { ids = s.ids ++ (id ∷ []); lists = l; few = rw length-append (omega (arith, s.few, tally_more s.ids id e p q)) }

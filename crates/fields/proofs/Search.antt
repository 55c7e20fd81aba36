-- A search goes place by place: it stops at the first that has the id, and passes over those before it.
use Rattle.std.proofs.Common.{◌≡◌, ℕ, zero, suc, ◌+◌, ◌<◌, ◌≤◌, Bool, true, false, cond, eqb, ltb, ◌≢◌, refl, ap, ◌∙◌, arith, ltb-false, ltb-true, eq-eqb, ne_eqb, eqb-true}
use borrow.Author.Tests.{eqb-false}
use Rattle.fields.specs.Search.{seek_first, seek_last}

-- what is found has the id
pub first_tells : (n i : ℕ) (ids : ℕ → ℕ) (id none : ℕ) → seek_first n i ids id none < none → ids (seek_first n i ids id none) ≡ id
unfolding seek_first
first_tells zero i ids id none h = absurd (omega arith)
first_tells (suc n) i ids id none h = by_test (eqb (ids i) id) (seek_first n (suc i) ids id none) refl (first_tells n (suc i) ids id none) h
  where
    by_test : (t : Bool) (later : ℕ) → eqb (ids i) id ≡ t → (later < none → ids later ≡ id) → cond t i later < none → ids (cond t i later) ≡ id
    by_test true later e rest k = eqb-true _ _ e
    by_test false later e rest k = rest k

-- and is one of the places
pub first_among : (n i : ℕ) (ids : ℕ → ℕ) (id none : ℕ) → seek_first n i ids id none < none → seek_first n i ids id none < i + n
unfolding seek_first
first_among zero i ids id none h = absurd (omega arith)
first_among (suc n) i ids id none h = by_test (eqb (ids i) id) (seek_first n (suc i) ids id none) (first_among n (suc i) ids id none) h
  where
    by_test : (t : Bool) (later : ℕ) → (later < none → later < suc i + n) → cond t i later < none → cond t i later < i + suc n
    by_test true later rest k = omega arith
    by_test false later rest k = let s = rest k in omega arith

-- the first place that has it is found
pub first_is : (n i : ℕ) (ids : ℕ → ℕ) (id none p : ℕ) → i ≤ p → p < i + n → ids p ≡ id → ((j : ℕ) → j < p → ids j ≢ id) → seek_first n i ids id none ≡ p
unfolding seek_first
first_is zero i ids id none p a b e before = absurd (omega arith)
first_is (suc n) i ids id none p a b e before =
    by_tests (eqb (ids i) id) (eqb i p) (seek_first n (suc i) ids id none) refl refl (λ r. first_is n (suc i) ids id none p r (omega arith) e before)
  where
    by_tests : (t u : Bool) (later : ℕ) → eqb (ids i) id ≡ t → eqb i p ≡ u → (suc i ≤ p → later ≡ p) → cond t i later ≡ p
    by_tests true true later x y rest = eqb-true i p y
    by_tests true false later x y rest = let s = eqb-false i p y in absurd (before i (omega arith) (eqb-true _ _ x))
    by_tests false true later x y rest = absurd (eqb-false (ids i) id x (rw (eqb-true i p y) e))
    by_tests false false later x y rest = let s = eqb-false i p y in rest (omega arith)

-- the search stays within the places
pub first_within : (n i : ℕ) (ids : ℕ → ℕ) (id none : ℕ) → i + n ≤ none → seek_first n i ids id none ≤ none
unfolding seek_first
first_within zero i ids id none h = omega arith
first_within (suc n) i ids id none h = by_test (eqb (ids i) id) (first_within n (suc i) ids id none (omega arith))
  where
    by_test : (t : Bool) → seek_first n (suc i) ids id none ≤ none → cond t i (seek_first n (suc i) ids id none) ≤ none
    by_test true later = omega (arith, h)
    by_test false later = later

-- the same of the last: what is found has the id, and is one of the places
pub last_tells : (n : ℕ) (ids : ℕ → ℕ) (id none : ℕ) → seek_last n ids id none < none → ids (seek_last n ids id none) ≡ id
unfolding seek_last
last_tells zero ids id none h = absurd (omega arith)
last_tells (suc n) ids id none h = by_test (eqb (ids n) id) (seek_last n ids id none) refl (last_tells n ids id none) h
  where
    by_test : (t : Bool) (later : ℕ) → eqb (ids n) id ≡ t → (later < none → ids later ≡ id) → cond t n later < none → ids (cond t n later) ≡ id
    by_test true later e rest k = eqb-true _ _ e
    by_test false later e rest k = rest k

pub last_among : (n : ℕ) (ids : ℕ → ℕ) (id none : ℕ) → seek_last n ids id none < none → seek_last n ids id none < n
unfolding seek_last
last_among zero ids id none h = absurd (omega arith)
last_among (suc n) ids id none h = by_test (eqb (ids n) id) (seek_last n ids id none) (last_among n ids id none) h
  where
    by_test : (t : Bool) (later : ℕ) → (later < none → later < n) → cond t n later < none → cond t n later < suc n
    by_test true later rest k = omega arith
    by_test false later rest k = let s = rest k in omega arith

-- where none is found, no place has it
pub last_none : (n : ℕ) (ids : ℕ → ℕ) (id none j : ℕ) → n ≤ none → none ≤ seek_last n ids id none → j < n → ids j ≢ id
unfolding seek_last
last_none zero ids id none j w h q = absurd (omega arith)
last_none (suc n) ids id none j w h q =
    by_tests (eqb (ids n) id) (eqb n j) (seek_last n ids id none) refl refl (λ k. last_none n ids id none j (omega arith) k) h
  where
    by_tests : (t u : Bool) (later : ℕ) → eqb (ids n) id ≡ t → eqb n j ≡ u → (none ≤ later → j < n → ids j ≢ id) → none ≤ cond t n later → ids j ≢ id
    by_tests true u later e f rest k = absurd (omega (arith, k, w))
    by_tests false true later e f rest k = rw (eqb-true n j f) at (eqb-false (ids n) id e)
    by_tests false false later e f rest k = let s = eqb-false n j f in rest k (omega (arith, s, q))

-- the last place that has it is found
pub last_is : (n : ℕ) (ids : ℕ → ℕ) (id none p : ℕ) → p < n → ids p ≡ id → ((j : ℕ) → p < j → j < n → ids j ≢ id) → seek_last n ids id none ≡ p
unfolding seek_last
last_is zero ids id none p a e after = absurd (omega arith)
last_is (suc n) ids id none p a e after =
    by_tests (eqb (ids n) id) (eqb n p) (seek_last n ids id none) refl refl (λ r. last_is n ids id none p r e (λ j x y. after j x (omega arith)))
  where
    by_tests : (t u : Bool) (later : ℕ) → eqb (ids n) id ≡ t → eqb n p ≡ u → (p < n → later ≡ p) → cond t n later ≡ p
    by_tests true true later x y rest = eqb-true n p y
    by_tests true false later x y rest = let s = eqb-false n p y in absurd (after n (omega (arith, s, a)) (omega arith) (eqb-true _ _ x))
    by_tests false true later x y rest = absurd (eqb-false (ids n) id x (rw (eqb-true n p y) e))
    by_tests false false later x y rest = let s = eqb-false n p y in rest (omega (arith, s, a))

-- one place after the other
pub last_passes : (n : ℕ) (ids : ℕ → ℕ) (id none : ℕ) → ids n ≢ id → seek_last (suc n) ids id none ≡ seek_last n ids id none
unfolding seek_last
last_passes n ids id none h = rw (ne_eqb (ids n) id h)

pub last_stops : (n : ℕ) (ids : ℕ → ℕ) (id none : ℕ) → ids n ≡ id → seek_last (suc n) ids id none ≡ n
unfolding seek_last
last_stops n ids id none h = rw (eq-eqb (ids n) id h)

-- places at the end that do not have it are passed over
pub last_shorter : (n m : ℕ) (ids : ℕ → ℕ) (id none : ℕ) → m ≤ n → ((j : ℕ) → m ≤ j → j < n → ids j ≢ id) → seek_last n ids id none ≡ seek_last m ids id none
last_shorter zero m ids id none h pass = let e : zero ≡ m = omega arith in ap (λ (k : ℕ). seek_last k ids id none) e
last_shorter (suc n) m ids id none h pass = by_test (eqb (suc n) m) refl (λ k. last_shorter n m ids id none k (λ j a b. pass j a (omega arith)))
  where
    by_test : (t : Bool) → eqb (suc n) m ≡ t → (m ≤ n → seek_last n ids id none ≡ seek_last m ids id none) → seek_last (suc n) ids id none ≡ seek_last m ids id none
    by_test true e rest = ap (λ (k : ℕ). seek_last k ids id none) (eqb-true (suc n) m e)
    by_test false e rest =
        let k : m ≤ n = omega (arith, h, eqb-false (suc n) m e) in
        last_passes n ids id none (pass n k (omega arith)) ∙ rest k

-- the search goes by the ids of its places alone, and stays within them
pub last_same : (n : ℕ) (a b : ℕ → ℕ) (id none : ℕ) → ((j : ℕ) → j < n → eqb (a j) id ≡ eqb (b j) id) → seek_last n a id none ≡ seek_last n b id none
unfolding seek_last
last_same zero a b id none h = refl
last_same (suc n) a b id none h = rw (h n (omega arith), last_same n a b id none (λ j k. h j (omega arith)))

pub last_within : (n : ℕ) (ids : ℕ → ℕ) (id none : ℕ) → n ≤ none → seek_last n ids id none ≤ none
unfolding seek_last
last_within zero ids id none h = omega arith
last_within (suc n) ids id none h = by_test (eqb (ids n) id) (last_within n ids id none (omega arith))
  where
    by_test : (t : Bool) → seek_last n ids id none ≤ none → cond t n (seek_last n ids id none) ≤ none
    by_test true later = omega (arith, h)
    by_test false later = later

-- where no two places have the id, either way finds the same
pub either_way : (n : ℕ) (ids : ℕ → ℕ) (id none : ℕ) → n ≤ none → ((i j : ℕ) → i < n → j < n → ids i ≡ id → ids j ≡ id → i ≡ j)
    → seek_first n 0 ids id none ≡ seek_last n ids id none
either_way n ids id none w one = by_test (ltb (seek_last n ids id none) none) (ltb (seek_first n 0 ids id none) none) refl refl
  where
    by_test : (t u : Bool) → ltb (seek_last n ids id none) none ≡ t → ltb (seek_first n 0 ids id none) none ≡ u → seek_first n 0 ids id none ≡ seek_last n ids id none
    by_test true u e f =
        let h : seek_last n ids id none < none = ltb-true _ _ e in
        let p = seek_last n ids id none in
        let there = last_tells n ids id none h in
        let among = last_among n ids id none h in
        first_is n 0 ids id none p (omega arith) (omega (arith, among)) there
        (λ j less q. let same = one j p (omega (arith, less, among)) among q there in omega (arith, less, same))
    by_test false true e f =
        let h : seek_first n 0 ids id none < none = ltb-true _ _ f in
        absurd (last_none n ids id none (seek_first n 0 ids id none) w (ltb-false _ _ e) (omega (arith, first_among n 0 ids id none h)) (first_tells n 0 ids id none h))
    by_test false false e f = omega (arith, ltb-false (seek_last n ids id none) none e, ltb-false (seek_first n 0 ids id none) none f, first_within n 0 ids id none (omega (arith, w)), last_within n ids id none w)

-- What stays where one packet more may be dropped: it changes at that packet alone, whose length goes where it is droppable.
use Rattle.std.proofs.Common.{ℕ, zero, suc, ◌+◌, ◌-◌, ◌≤◌, ◌<◌, Bool, true, false, not, cond, List, ◌⊎◌, inl, inr, ◌≡◌, refl, sym, ap, ◌∙◌, add-one, eq-or-lt_of_le, arith, leb, get_or, leb-true, leb-false, le-leb}
use Rattle.std.proofs.lemmas.Bool.{lt-leb}
use Rattle.std.proofs.lemmas.Bool.Decides.{nat_tests}
use Rattle.drop_plan.specs.Plan.{rest, staying, undroppable, until}
use Rattle.drop_plan.specs.Queue.{Queue, droppable, length_at, places_from, size, those, total}
use Rattle.drop_plan.proofs.Steps.{total_those}

-- two tests that agree on places
pub those_same : (f g : ℕ → Bool) (a n : ℕ) → ((p : ℕ) → a ≤ p → p < a + n → f p ≡ g p) → those f (places_from a n) ≡ those g (places_from a n)
unfolding those places_from
those_same f g a zero h = refl
those_same f g a (suc n) h =
    rw (h a (omega arith) (omega arith), those_same f g (suc a) n (λ p k l. h p (omega arith) (omega arith)))

staying_same : (marks : List Bool) (start p : ℕ) → ¬ (p ≡ start) → staying marks start p ≡ staying marks (suc start) p
staying_same marks start p n = go (leb start p) refl
  where
    go : (b : Bool) → leb start p ≡ b → staying marks start p ≡ staying marks (suc start) p
    go true e =
        let k : suc start ≤ p = omega (arith, leb-true start p e) in
        rw (e, le-leb (suc start) p k)
    go false e =
        let k : p < suc start = omega (arith, leb-false start p e) in
        rw (e, lt-leb (suc start) p k)

module _ (lengths : List ℕ) (marks : List Bool) (start : ℕ) where
  -- what stays of n places from a place on
  abbrev stay : ℕ → ℕ → ℕ → ℕ
  stay s a n = total lengths (those (staying marks s) (places_from a n))

  goes : ℕ
  goes = cond (get_or marks start false) (get_or lengths start 0) 0

  -- at the packet itself
  here : (n : ℕ) → stay start start (suc n) ≡ goes + stay (suc start) start (suc n)
  unfolding places_from goes
  here n =
      let one = total_those lengths (staying marks start) start (places_from (suc start) n) in
      let two = total_those lengths (staying marks (suc start)) start (places_from (suc start) n) in
      let after = those_same (staying marks start) (staying marks (suc start)) (suc start) n (λ p k l. staying_same marks start p (λ e. omega arith)) in
      one ∙ rw (le-leb start start (omega arith), after) (counted (get_or marks start false) ∙ sym (ap (λ (x : ℕ). goes + x) (two ∙ rw (lt-leb (suc start) start (omega arith)))))
    where
      counted : (b : Bool) → get_or lengths start 0 + stay (suc start) (suc start) n ≡ cond b (get_or lengths start 0) 0 + (cond (not b) (get_or lengths start 0) 0 + stay (suc start) (suc start) n)
      counted true = omega arith
      counted false = omega arith

  -- at a later one
  fewer : (n a : ℕ) → a ≤ start → start < a + n → stay start a n ≡ goes + stay (suc start) a n
  unfolding places_from
  fewer zero a p h = absurd (omega arith)
  fewer (suc n) a p h = go (eq-or-lt_of_le p) (λ l. fewer n (suc a) (omega arith) (omega arith))
    where
      go : (a ≡ start) ⊎ (a < start) → (a < start → stay start (suc a) n ≡ goes + stay (suc start) (suc a) n) → stay start a (suc n) ≡ goes + stay (suc start) a (suc n)
      go (inl e) later = rw e (here n)
      go (inr l) later =
          let one : stay start a (suc n) ≡ _ = total_those lengths (staying marks start) a (places_from (suc a) n) in
          let two : stay (suc start) a (suc n) ≡ _ = total_those lengths (staying marks (suc start)) a (places_from (suc a) n) in
          let same = staying_same marks start a (λ e. omega arith) in
          one ∙ (rw (same, later l) (omega arith)) ∙ sym (ap (λ (x : ℕ). goes + x) two)

-- the rest with one packet more dropped
pub rest_next : (q : Queue) (start : ℕ) → start < size q
    → total q.lengths (rest q start) ≡ cond (droppable q start) (length_at q start) 0 + total q.lengths (rest q (start + 1))
unfolding goes
rest_next q start h = rw add-one (fewer q.lengths q.marks start (size q) 0 (omega arith) (omega arith))

-- the rest with all dropped
pub rest_last : (q : Queue) → rest q (size q) ≡ undroppable q
rest_last q =
    those_same (staying q.marks (size q)) (λ p. not (droppable q p)) 0 (size q)
    (λ p k l. let m : p < size q = omega arith in rw (lt-leb (size q) p m))

-- from a place on
pub until_next : (q : Queue) (limit start n : ℕ) → start < n
    → until (n - start) q limit start ≡ cond (leb (total q.lengths (rest q start)) limit) start (until (n - (start + 1)) q limit (start + 1))
unfolding until
until_next q limit start n h =
    let e : n - start ≡ suc (n - (start + 1)) = omega arith in
    rw (e, add-one)

pub until_none : (q : Queue) (limit start n : ℕ) → n ≤ start → until (n - start) q limit start ≡ start
unfolding until
until_none q limit start n h =
    let e : n - start ≡ 0 = omega arith in
    rw e

pub ruleset propose_steps = (rest_last, nat_tests)

pub ruleset search_steps = (rest_next, until_next, until_none, nat_tests)

-- A good proposal is what stays behind the newest packet that it drops, and this is the first place for which the rest fits: so it is the plan.
use Rattle.std.proofs.Common.{ℕ, zero, suc, ◌+◌, ◌-◌, ◌≤◌, ◌<◌, Bool, true, false, not, cond, ◌||◌, List, ◌⊎◌, inl, inr, ⊎_elim, ◌≡◌, refl, ap, ◌∙◌, eq-or-lt_of_le, arith, leb, leb-true, leb-false}
use Rattle.std.proofs.lemmas.Bool.{or_right}
use Rattle.fields.proofs.Tests.{clash, never}
use Rattle.drop_plan.specs.Check.{among}
use Rattle.drop_plan.specs.Conditions.{AllHold, conditions, ◌∈◌}
use Rattle.drop_plan.specs.Plan.{rest, staying, until}
use Rattle.drop_plan.specs.Promise.{Dropped, Good, OnlyPlan}
use Rattle.drop_plan.specs.Queue.{Queue, droppable, length_at, size, total}
use Rattle.drop_plan.proofs.Conditions.{check_judges}
use Rattle.drop_plan.proofs.Members.{among_in, in_among}
use Rattle.drop_plan.proofs.Planning.{ended, in_rest, stays_in, those_rise}
use Rattle.drop_plan.proofs.Rest.{rest_last, rest_next}
use Rattle.drop_plan.proofs.Rising.{same_places}

-- the more may be dropped, the less is left
less_left : (q : Queue) (n start : ℕ) → start + n ≤ size q → total q.lengths (rest q (start + n)) ≤ total q.lengths (rest q start)
less_left q zero start h =
    let e : start + 0 ≡ start = omega arith in
    rw e (omega arith)
less_left q (suc n) start h =
    let e : start + suc n ≡ start + n + 1 = omega arith in
    let a = less_left q n start (omega arith) in
    let b = rest_next q (start + n) (omega arith) in
    rw e (omega arith)

module _ (q : Queue) (limit : ℕ) (ks : List ℕ) (g : Good q limit ks) where
  held : AllHold (conditions q limit ks)
  held = (check_judges q limit ks).accepts.0 g.accepts

  -- what is not kept is dropped
  kept_or_dropped : (p : ℕ) → p < size q → (p ∈ ks) ⊎ Dropped q ks p
  kept_or_dropped p h = go (among p ks) refl
    where
      go : (b : Bool) → among p ks ≡ b → (p ∈ ks) ⊎ Dropped q ks p
      go true e = inl (among_in p ks e)
      go false e = inr (h, λ m. clash e (in_among p ks m))

  -- the first place behind all that are dropped
  record Behind (start : ℕ) : Type 0 where
    in_queue : start ≤ size q
    after : (p : ℕ) → Dropped q ks p → p < start
    last : (p : ℕ) → suc p ≡ start → Dropped q ks p

  behind : (n : ℕ) → n ≤ size q → ((p : ℕ) → Dropped q ks p → p < n) → (start : ℕ) × Behind start
  behind zero h a = (0, record { in_queue = h; after = a; last = λ p e. absurd (omega arith) })
  behind (suc n) h a = go (kept_or_dropped n h) (λ b. behind n (omega arith) b)
    where
      go : (n ∈ ks) ⊎ Dropped q ks n → (((p : ℕ) → Dropped q ks p → p < n) → (start : ℕ) × Behind start) → (start : ℕ) × Behind start
      go (inr d) less = (suc n, record { in_queue = h; after = a; last = λ p e. let k : p ≡ n = omega arith in rw k d })
      go (inl m) less = less (λ p d. ⊎_elim (λ (e : p ≡ n). absurd (d.1 (rw e m))) (λ (l : p < n). l) (eq-or-lt_of_le (a_le p d)))
        where
          a_le : (p : ℕ) → Dropped q ks p → p ≤ n
          a_le p d = let k = a p d in omega arith

  -- what stays behind it is what is kept
  as_rest : (start : ℕ) → Behind start → ks ≡ rest q start
  as_rest start b = same_places ks (rest q start) held.1.0 (those_rise (staying q.marks start) (size q) 0) there back
    where
      there : (p : ℕ) → p ∈ ks → p ∈ rest q start
      there p m = in_rest q start p (held.1.1.0 p m) (go (leb start p) refl (droppable q p) refl)
        where
          newest : leb start p ≡ false → droppable q p ≡ true → (s : ℕ) → s ≡ start → ⊥
          newest e d zero f = let k = leb-false start p e in omega arith
          newest e d (suc n) f =
              let k = leb-false start p e in
              let l = g.oldest n p (b.last n f) m d in
              omega arith

          go : (c : Bool) → leb start p ≡ c → (d : Bool) → droppable q p ≡ d → (leb start p || not (droppable q p)) ≡ true
          go true e d f = rw e
          go false e false f = or_right (leb start p) _ (rw f)
          go false e true f = absurd (newest e f start refl)

      back : (p : ℕ) → p ∈ rest q start → p ∈ ks
      back p m =
          let s = stays_in q start p m in
          ⊎_elim (λ (k : p ∈ ks). k)
          (λ (d : Dropped q ks p). absurd (gone p d s.1 (droppable q p) refl))
          (kept_or_dropped p s.0)
        where
          gone : (p : ℕ) → Dropped q ks p → staying q.marks start p ≡ true → (d : Bool) → droppable q p ≡ d → ⊥
          gone p d s false f = d.1 (held.1.1.1.0 p d.0 f)
          gone p d s true f = go (leb start p) refl s
            where
              go : (c : Bool) → leb start p ≡ c → (c || not (droppable q p)) ≡ true → ⊥
              go true e t = let k = leb-true start p e in let l = b.after p d in omega arith
              go false e t = never (rw f at t)

  abbrev end : ℕ
  end = until (size q) q limit 0

  -- and it is where the search ends: it fits there, and does not with the last one back
  module _ (start : ℕ) (b : Behind start) where
    same_total : total q.lengths ks ≡ total q.lengths (rest q start)
    same_total = ap (total q.lengths) (as_rest start b)

    fits : total q.lengths (rest q start) ≤ limit
    fits = omega (arith, same_total, held.1.1.1.1.0)

    fits_at_end : total q.lengths (rest q end) ≤ limit
    fits_at_end =
        let e : start + (size q - start) ≡ size q = omega (arith, b.in_queue) in
        let less : total q.lengths (rest q (size q)) ≤ total q.lengths (rest q start) = rw e at (less_left q (size q - start) start (omega (arith, b.in_queue))) in
        (ended q limit).fits (omega (arith, fits, ap (total q.lengths) (rest_last q)))

    not_after : (p : ℕ) → suc p ≡ start → end ≤ p → ⊥
    not_after p e h =
        let d = b.last p e in
        let over = g.needed p d (λ k dk. omega (arith, b.after k dk)) in
        let s : p + 1 ≡ start = omega arith in
        let step : total q.lengths (rest q p) ≡ cond (droppable q p) (length_at q p) 0 + total q.lengths (rest q start) = rw s at (rest_next q p d.0) in
        let m : end + (p - end) ≡ p = omega arith in
        let less : total q.lengths (rest q p) ≤ total q.lengths (rest q end) = rw m at (less_left q (p - end) end (omega (arith, d.0))) in
        go (droppable q p) refl step over less
      where
        go : (c : Bool) → droppable q p ≡ c → total q.lengths (rest q p) ≡ cond c (length_at q p) 0 + total q.lengths (rest q start)
            → limit < length_at q p + total q.lengths ks
            → total q.lengths (rest q p) ≤ total q.lengths (rest q end)
            → ⊥
        go true f step over less = omega (arith, same_total, fits_at_end)
        go false f step over less = (b.last p e).1 (held.1.1.1.0 p (b.last p e).0 f)

    start_is_end : start ≡ end
    start_is_end = go (leb start end) refl
      where
        go : (c : Bool) → leb start end ≡ c → start ≡ end
        go false e = let k = leb-false start end e in absurd (not_after (start - 1) (omega arith) (omega arith))
        go true e =
            ⊎_elim (λ (f : start ≡ end). f)
            (λ (l : start < end). absurd (let over = (ended q limit).not_before start (omega arith) l in omega (arith, fits)))
            (eq-or-lt_of_le (leb-true start end e))

pub only_plan : OnlyPlan
only_plan q limit ks g =
    let b = behind q limit ks g (size q) (omega arith) (λ p d. d.0) in
    as_rest q limit ks g b.0 b.1 ∙ ap (rest q) (start_is_end q limit ks g b.0 b.1)

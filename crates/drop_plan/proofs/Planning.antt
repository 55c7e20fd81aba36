-- The plan is good: what stays rises in the queue with every packet that is not droppable, the search ends where it fits, and not before.
use Rattle.std.proofs.Common.{ℕ, zero, suc, ◌+◌, ◌≤◌, ◌<◌, Bool, true, false, not, cond, ◌||◌, [], ◌∷◌, ◌⊎◌, inl, inr, ◌≡◌, refl, sym, ap, ◌∙◌, eq-or-lt_of_le, arith, leb, ltb, leb-true, leb-false, ltb-true, ltb-false}
use Rattle.std.proofs.lemmas.Bool.{not-true, or_right}
use Rattle.fields.proofs.Tests.{clash}
use Rattle.drop_plan.specs.Answer.{Outcome, cannot, unplanned}
use Rattle.drop_plan.specs.Conditions.{Include, Rise, ◌∈◌}
use Rattle.drop_plan.specs.Plan.{beside, plan, planned, proposed, rest, staying, undroppable, until}
use Rattle.drop_plan.specs.Promise.{Dropped, Good, PlannerPlans, Plans}
use Rattle.drop_plan.specs.Queue.{Queue, droppable, most, places, places_from, size, those, total}
use Rattle.drop_plan.proofs.Conditions.{check_judges}
use Rattle.drop_plan.proofs.Members.{in_places, in_those, places_in, those_in}
use Rattle.drop_plan.proofs.Rising.{above_rises}
use Rattle.drop_plan.proofs.Rest.{rest_last, rest_next, those_same}

-- places that pass a test rise
those_above : (test : ℕ → Bool) (n a b : ℕ) → a ≤ b → (p : ℕ) → p ∈ those test (places_from b n) → a ≤ p
those_above test n a b h p m = let k = places_in n b p (those_in test (places_from b n) p m).0 in omega arith

pub those_rise : (test : ℕ → Bool) (n a : ℕ) → Rise (those test (places_from a n))
unfolding those places_from
those_rise test zero a = λ i j l h. absurd (omega arith)
those_rise test (suc n) a = go (test a) (those_rise test n (suc a))
  where
    go : (b : Bool) → Rise (those test (places_from (suc a) n)) → Rise (cond b (a ∷ those test (places_from (suc a) n)) (those test (places_from (suc a) n)))
    go true later = above_rises a (those test (places_from (suc a) n)) (λ p m. those_above test n (suc a) (suc a) (omega arith) p m) later
    go false later = later

-- what stays, and what does not
module _ (q : Queue) (start : ℕ) where
  pub stays_in : (p : ℕ) → p ∈ rest q start → (p < size q) × (staying q.marks start p ≡ true)
  stays_in p m =
      let h = those_in (staying q.marks start) (places q) p m in
      (omega (arith, (places_in (size q) 0 p h.0).1), h.1)

  pub in_rest : (p : ℕ) → p < size q → staying q.marks start p ≡ true → p ∈ rest q start
  in_rest p h e = in_those (staying q.marks start) (places q) p (in_places (size q) 0 p (omega arith) (omega arith)) e

  rest_includes : Include q (rest q start)
  rest_includes p h d = in_rest p h (or_right (leb start p) _ (rw d))

  -- a packet that is dropped stands before `start` and is droppable
  dropped : (p : ℕ) → Dropped q (rest q start) p → (p < start) × (droppable q p ≡ true)
  dropped p h = go (leb start p) refl (droppable q p) refl
    where
      go : (b : Bool) → leb start p ≡ b → (d : Bool) → droppable q p ≡ d → (p < start) × (droppable q p ≡ true)
      go true e d f = absurd (h.1 (in_rest p h.0 (rw e)))
      go false e true f = (leb-false start p e, f)
      go false e false f = absurd (h.1 (in_rest p h.0 (or_right (leb start p) _ (rw f))))

  -- a droppable one that is kept does not
  kept_later : (p : ℕ) → p ∈ rest q start → droppable q p ≡ true → start ≤ p
  kept_later p m d = go (leb start p) refl (stays_in p m).1
    where
      go : (b : Bool) → leb start p ≡ b → (b || not (droppable q p)) ≡ true → start ≤ p
      go true e f = leb-true start p e
      go false e f = clash (rw d at (not-true (droppable q p) f)) refl

-- where the search ends: the rest fits there, where it fits at all, and it does not at any place before
pub record Ends (q : Queue) (limit start end : ℕ) : Type 0 where
  pub fits : total q.lengths (undroppable q) ≤ limit → total q.lengths (rest q end) ≤ limit
  pub in_queue : end ≤ size q
  pub not_before : (s : ℕ) → start ≤ s → s < end → limit < total q.lengths (rest q s)

ends : (q : Queue) (limit n start : ℕ) → start + n ≡ size q → Ends q limit start (until n q limit start)
unfolding until
ends q limit zero start e =
    let s : start ≡ size q = omega arith in
    record { fits = λ h. rw (s, rest_last q) h; in_queue = omega arith; not_before = λ s l m. absurd (omega arith) }
ends q limit (suc n) start e = go (leb (total q.lengths (rest q start)) limit) refl (ends q limit n (suc start) (omega arith))
  where
    go : (b : Bool) → leb (total q.lengths (rest q start)) limit ≡ b → Ends q limit (suc start) (until n q limit (suc start)) → Ends q limit start (cond b start (until n q limit (suc start)))
    go true f later = record { fits = λ h. leb-true _ _ f; in_queue = omega arith; not_before = λ s l m. absurd (omega arith) }
    go false f later = record {
      fits = later.fits;
      in_queue = later.in_queue;
      not_before = λ s l m. first s (eq-or-lt_of_le l) m;
    }
      where
        first : (s : ℕ) → (start ≡ s) ⊎ (start < s) → s < until n q limit (suc start) → limit < total q.lengths (rest q s)
        first s (inl x) m = rw (← x) (leb-false _ _ f)
        first s (inr x) m = later.not_before s x m

module _ (q : Queue) (limit : ℕ) where
  abbrev end : ℕ
  end = until (size q) q limit 0

  pub ended : Ends q limit 0 end
  ended = ends q limit (size q) 0 (omega arith)

  -- beyond the newest that is dropped nothing more is
  same_rest : (p : ℕ) → Dropped q (plan q limit) p → ((k : ℕ) → Dropped q (plan q limit) k → k ≤ p) → rest q (p + 1) ≡ plan q limit
  same_rest p d newest =
      those_same (staying q.marks (p + 1)) (staying q.marks end) 0 (size q) (λ r a b. agree r (omega arith) (leb (p + 1) r) refl (leb end r) refl (droppable q r) refl)
    where
      agree : (r : ℕ) → r < size q → (b : Bool) → leb (p + 1) r ≡ b → (c : Bool) → leb end r ≡ c → (m : Bool) → droppable q r ≡ m → staying q.marks (p + 1) r ≡ staying q.marks end r
      agree r h true e true f m g = rw (e, f)
      agree r h false e false f m g = rw (e, f)
      agree r h false e true f m g =
          let k = (dropped q end p d).0 in
          absurd (omega (arith, leb-false (p + 1) r e, leb-true end r f))
      agree r h true e false f false g = rw (e, f, g)
      agree r h true e false f true g =
          let over = newest r (h, λ m. let k = kept_later q end r m g in omega (arith, leb-false end r f)) in
          absurd (omega (arith, leb-true (p + 1) r e))

  good : size q ≤ most → total q.lengths (undroppable q) ≤ limit → Good q limit (plan q limit)
  good h fit = record {
    accepts = (check_judges q limit (plan q limit)).accepts.1 (h, (those_rise (staying q.marks end) (size q) 0, ((λ p m. (stays_in q end p m).0), (rest_includes q end, (ended.fits fit, tt)))));
    oldest = λ p k d m g. let a = (dropped q end p d).0 in let b = kept_later q end k m g in omega arith;
    needed = λ p d newest.
        let a = dropped q end p d in
        let over = ended.not_before p (omega arith) a.0 in
        let step = rw a.1 at (rest_next q p d.0) in
        let same = ap (total q.lengths) (same_rest p d newest) in
        omega arith;
  }

-- the planner's three answers differ
abbrev too_many : Outcome
too_many = beside (unplanned 24) []

abbrev can't : Outcome
can't = beside cannot []

apart : {A : Type 0} {x y : Outcome} → x ≡ y → ¬ (x.answer ≡ y.answer) → A
apart e n = absurd (n (ap (λ (o : Outcome). o.answer) e))

pub planner_plans : PlannerPlans
unfolding planned
planner_plans q limit = go (ltb most (size q)) refl (ltb limit (total q.lengths (undroppable q))) refl
  where
    go : (b : Bool) → ltb most (size q) ≡ b → (c : Bool) → ltb limit (total q.lengths (undroppable q)) ≡ c → Plans q limit
    go true e c f =
        let is : planned q limit ≡ too_many = rw e in
        let many = ltb-true most (size q) e in
        record {
          too_many = (λ x. many, λ x. is);
          cannots = (λ x. apart (sym is ∙ x) (λ e. cc), λ x. absurd (omega arith));
          keeps = (λ x. apart (sym is ∙ x) (λ e. cc), λ x. absurd (omega arith));
          good = good q limit;
        }
    go false e true f =
        let is : planned q limit ≡ can't = rw (e, f) in
        let few = ltb-false most (size q) e in
        let short = ltb-true limit (total q.lengths (undroppable q)) f in
        record {
          too_many = (λ x. apart (sym x ∙ is) (λ e. cc), λ x. absurd (omega arith));
          cannots = (λ x. (few, short), λ x. is);
          keeps = (λ x. apart (sym is ∙ x) (λ e. cc), λ x. absurd (omega arith));
          good = good q limit;
        }
    go false e false f =
        let is : planned q limit ≡ proposed (plan q limit) = rw (e, f) in
        let few = ltb-false most (size q) e in
        let enough = ltb-false limit (total q.lengths (undroppable q)) f in
        record {
          too_many = (λ x. apart (sym x ∙ is) (λ e. cc), λ x. absurd (omega arith));
          cannots = (λ x. apart (sym x ∙ is) (λ e. cc), λ x. absurd (omega arith));
          keeps = (λ x. (few, enough), λ x. is);
          good = good q limit;
        }

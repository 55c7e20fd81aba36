-- The check judges by document 02's conditions: each test is true exactly where its condition is broken, and the first that is decides.
use Rattle.std.proofs.Common.{ℕ, zero, suc, ◌+◌, ◌≤◌, ◌<◌, Bool, true, false, not, cond, ◌||◌, List, [], ◌∷◌, ◌⊎◌, inl, inr, ◌≡◌, refl, sym, ap, eq-or-lt_of_le, arith, ltb, length, get_or, lt-ltb, ltb-true, ltb-false}
use Rattle.std.proofs.lemmas.Bool.{and_parts}
use Rattle.fields.proofs.Tests.{never}
use Rattle.drop_plan.specs.Answer.{Judgement, accepted, refused}
use Rattle.drop_plan.specs.Check.{among, includes, judged, rising, within}
use Rattle.drop_plan.specs.Conditions.{CheckJudges, Condition, FirstBroken, Include, Judges, Rise, ◌unless◌, ◌∈◌}
use Rattle.drop_plan.specs.Queue.{Queue, droppable, most, places, size, total}
use Rattle.drop_plan.proofs.Members.{among_in, at_in, every_in, in_among, in_every, in_places, places_in}

-- a test that is true exactly where a condition is broken
record Breaks (t : Bool) (P : Type 0) : Type 0 where
  broken : t ≡ true → ¬ P
  holds : t ≡ false → P

breaks_not : {P : Type 0} (t : Bool) → (t ≡ true → P) → (P → t ≡ true) → Breaks (not t) P
breaks_not true f g = record { broken = λ e. never e; holds = λ e. f refl }
breaks_not false f g = record { broken = λ e p. never (g p); holds = λ e. never (sym e) }

breaks_over : (a b : ℕ) → Breaks (ltb b a) (a ≤ b)
breaks_over a b = record { broken = λ e h. let k = ltb-true b a e in omega arith; holds = λ e. ltb-false b a e }

-- conditions in an order
judges_none : Judges [] accepted
judges_none = record { accepts = (λ e. tt, λ u. refl); refuses = λ n. (λ e. cc, λ b. absurd b) }

number_of : {m n : ℕ} → refused m ≡ refused n → n ≡ m
number_of e = cc

judges_next : (n : ℕ) {P : Type 0} {cs : List Condition} {j : Judgement} (t : Bool) → Breaks t P → Judges cs j → Judges ((n unless P) ∷ cs) (cond t (refused n) j)
judges_next n {P} {cs} true b later = record {
  accepts = (λ e. absurd (cc), λ h. absurd (b.broken refl h.0));
  refuses = λ m. (λ e. inl (number_of e, b.broken refl), broken m);
}
  where
    broken : (m : ℕ) → FirstBroken m ((n unless P) ∷ cs) → refused n ≡ refused m
    broken m (inl h) = ap refused (sym h.0)
    broken m (inr h) = absurd (b.broken refl h.0)
judges_next n {P} {cs} {j} false b later = record {
  accepts = (λ e. (b.holds refl, later.accepts.0 e), λ h. later.accepts.1 h.1);
  refuses = λ m. (λ e. inr (b.holds refl, (later.refuses m).0 e), broken m);
}
  where
    broken : (m : ℕ) → FirstBroken m ((n unless P) ∷ cs) → j ≡ refused m
    broken m (inl h) = absurd (h.1 (b.holds refl))
    broken m (inr h) = (later.refuses m).1 h.1

-- "places rise strictly"
pub neighbours : (ks : List ℕ) → rising ks ≡ true → (i : ℕ) → suc i < length ks → get_or ks i 0 < get_or ks (suc i) 0
unfolding rising
neighbours [] e i h = absurd (omega arith)
neighbours (p ∷ []) e i h = absurd (omega arith)
neighbours (p ∷ k ∷ ks) e zero h = ltb-true p k (and_parts _ _ e).0
neighbours (p ∷ k ∷ ks) e (suc i) h = neighbours (k ∷ ks) (and_parts (ltb p k) _ e).1 i (omega arith)

pub rising_rises : (ks : List ℕ) → rising ks ≡ true → Rise ks
rising_rises ks e i zero l h = absurd (omega arith)
rising_rises ks e i (suc j) l h = go (eq-or-lt_of_le l) (λ k. rising_rises ks e i j k (omega arith))
  where
    go : (suc i ≡ suc j) ⊎ (suc i < suc j) → (i < j → get_or ks i 0 < get_or ks j 0) → get_or ks i 0 < get_or ks (suc j) 0
    go (inl q) later =
        let s : i ≡ j = omega arith in
        rw s (neighbours ks e j h)
    go (inr k) later = let a = later (omega arith) in let b = neighbours ks e j h in omega arith

rises_rising : (ks : List ℕ) → Rise ks → rising ks ≡ true
unfolding rising
rises_rising [] r = refl
rises_rising (p ∷ []) r = refl
rises_rising (p ∷ k ∷ ks) r =
    rw (lt-ltb p k (r 0 1 (omega arith) (omega arith)), rises_rising (k ∷ ks) (λ i j l h. r (suc i) (suc j) (omega arith) (omega arith)))

-- "lie in the queue"
pub within_lies : (n : ℕ) (ks : List ℕ) → within n ks ≡ true → (p : ℕ) → p ∈ ks → p < n
unfolding within
within_lies n ks e p m = ltb-true p n (every_in (λ k. ltb k n) ks e p m)

lies_within : (n : ℕ) (ks : List ℕ) → ((p : ℕ) → p ∈ ks → p < n) → within n ks ≡ true
unfolding within
lies_within n ks h = in_every (λ k. ltb k n) ks (λ p m. lt-ltb p n (h p m))

-- "include every packet that isn't droppable"
module _ (q : Queue) (ks : List ℕ) where
  passes : ℕ → Bool
  passes p = droppable q p || among p ks

  includes_all : includes q ks ≡ true → Include q ks
  unfolding includes passes
  includes_all e p h d = among_in p ks (rw d at (every_in passes (places q) e p (in_places (size q) 0 p (omega arith) (omega arith))))

  all_included : Include q ks → includes q ks ≡ true
  unfolding includes passes
  all_included i = in_every passes (places q) (λ p m. go p (droppable q p) refl (places_in (size q) 0 p m).1)
    where
      go : (p : ℕ) (b : Bool) → droppable q p ≡ b → p < 0 + size q → (b || among p ks) ≡ true
      go p true e h = refl
      go p false e h = in_among p ks (i p (omega arith) e)

pub check_judges : CheckJudges
unfolding judged
check_judges q limit ks =
    judges_next 24 (ltb most (size q)) (breaks_over (size q) most)
    (judges_next 20 (not (rising ks)) (breaks_not (rising ks) (rising_rises ks) (rises_rising ks))
    (judges_next 21 (not (within (size q) ks)) (breaks_not (within (size q) ks) (within_lies (size q) ks) (lies_within (size q) ks))
    (judges_next 22 (not (includes q ks)) (breaks_not (includes q ks) (includes_all q ks) (all_included q ks))
    (judges_next 23 (ltb limit (total q.lengths ks)) (breaks_over (total q.lengths ks) limit)
    judges_none))))

-- places that rise below a number are no more than it
at_least : (ks : List ℕ) → Rise ks → (i : ℕ) → i < length ks → i ≤ get_or ks i 0
at_least ks r zero h = omega arith
at_least ks r (suc i) h = let a = at_least ks r i (omega arith) in let b = r i (suc i) (omega arith) h in omega arith

pub few : (n : ℕ) (ks : List ℕ) → Rise ks → ((p : ℕ) → p ∈ ks → p < n) → length ks ≤ n
few n [] r l = omega arith
few n (k ∷ ks) r l =
    let last : length ks < length (k ∷ ks) = omega arith in
    let a = at_least (k ∷ ks) r (length ks) last in
    let b = l _ (at_in (k ∷ ks) (length ks) last) in
    omega arith

-- so places that the check finds in order are no more than the packets
pub few_judged : (n : ℕ) (ks : List ℕ) → rising ks ≡ true → within n ks ≡ true → length ks ≤ n
few_judged n ks rose lay = few n ks (rising_rises ks rose) (within_lies n ks lay)

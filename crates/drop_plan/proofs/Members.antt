-- Being among places, and what holds of every one of them: the tests say so, and the places of a queue are the numbers below its size.
use Rattle.std.proofs.Common.{ℕ, zero, suc, ◌+◌, ◌≤◌, ◌<◌, Bool, true, false, cond, List, [], ◌∷◌, ◌⊎◌, inl, inr, ⊎_elim, ◌≡◌, refl, sym, ap, ◌∙◌, eq-or-lt_of_le, arith, eqb, length, get_or, eq-eqb, eqb-true}
use Rattle.std.proofs.lemmas.Bool.{and_parts, or_cases, or_right}
use Rattle.fields.proofs.Tests.{never}
use Rattle.drop_plan.specs.Check.{among, every}
use Rattle.drop_plan.specs.Conditions.{◌∈◌}
use Rattle.drop_plan.specs.Queue.{places_from, those}

-- among some
pub among_in : (p : ℕ) (ks : List ℕ) → among p ks ≡ true → p ∈ ks
unfolding among
among_in p [] e = never e
among_in p (k ∷ ks) e = ⊎_elim (λ (a : eqb k p ≡ true). inl (sym (eqb-true k p a))) (λ (b : among p ks ≡ true). inr (among_in p ks b)) (or_cases _ _ e)

pub in_among : (p : ℕ) (ks : List ℕ) → p ∈ ks → among p ks ≡ true
unfolding among
in_among p [] m = absurd m
in_among p (k ∷ ks) (inl e) = rw (eq-eqb k p (sym e))
in_among p (k ∷ ks) (inr m) = or_right (eqb k p) _ (in_among p ks m)

-- every one
pub every_in : (test : ℕ → Bool) (ks : List ℕ) → every test ks ≡ true → (p : ℕ) → p ∈ ks → test p ≡ true
unfolding every
every_in test [] e p m = absurd m
every_in test (k ∷ ks) e p (inl m) = ap test m ∙ (and_parts _ _ e).0
every_in test (k ∷ ks) e p (inr m) = every_in test ks (and_parts (test k) _ e).1 p m

pub in_every : (test : ℕ → Bool) (ks : List ℕ) → ((p : ℕ) → p ∈ ks → test p ≡ true) → every test ks ≡ true
unfolding every
in_every test [] h = refl
in_every test (k ∷ ks) h = rw (h k (inl refl), in_every test ks (λ p m. h p (inr m)))

-- an element is among all
pub at_in : (ks : List ℕ) (i : ℕ) → i < length ks → get_or ks i 0 ∈ ks
at_in [] i h = absurd (omega arith)
at_in (k ∷ ks) zero h = inl refl
at_in (k ∷ ks) (suc i) h = inr (at_in ks i (omega arith))

-- the places from one on
pub in_places : (n a p : ℕ) → a ≤ p → p < a + n → p ∈ places_from a n
unfolding places_from
in_places zero a p l h = absurd (omega arith)
in_places (suc n) a p l h = go (eq-or-lt_of_le l) (λ k. in_places n (suc a) p k (omega arith))
  where
    go : (a ≡ p) ⊎ (a < p) → (a < p → p ∈ places_from (suc a) n) → (p ≡ a) ⊎ (p ∈ places_from (suc a) n)
    go (inl e) later = inl (sym e)
    go (inr k) later = inr (later k)

pub places_in : (n a p : ℕ) → p ∈ places_from a n → (a ≤ p) × (p < a + n)
unfolding places_from
places_in zero a p m = absurd m
places_in (suc n) a p (inl e) = (omega arith, omega arith)
places_in (suc n) a p (inr m) = let h = places_in n (suc a) p m in (omega arith, omega arith)

-- those that pass a test
pub in_those : (test : ℕ → Bool) (ks : List ℕ) (p : ℕ) → p ∈ ks → test p ≡ true → p ∈ those test ks
unfolding those
in_those test [] p m e = absurd m
in_those test (k ∷ ks) p (inl m) e = rw (sym (ap test m) ∙ e) (inl m)
in_those test (k ∷ ks) p (inr m) e = go (test k) (in_those test ks p m e)
  where
    go : (b : Bool) → p ∈ those test ks → p ∈ cond b (k ∷ those test ks) (those test ks)
    go true t = inr t
    go false t = t

pub those_in : (test : ℕ → Bool) (ks : List ℕ) (p : ℕ) → p ∈ those test ks → (p ∈ ks) × (test p ≡ true)
unfolding those
those_in test [] p m = absurd m
those_in test (k ∷ ks) p m = go (test k) refl m (those_in test ks p)
  where
    go : (b : Bool) → test k ≡ b → p ∈ cond b (k ∷ those test ks) (those test ks) → (p ∈ those test ks → (p ∈ ks) × (test p ≡ true)) → (p ∈ (k ∷ ks)) × (test p ≡ true)
    go true e (inl x) later = (inl x, ap test x ∙ e)
    go true e (inr x) later = (inr (later x).0, (later x).1)
    go false e x later = (inr (later x).0, (later x).1)

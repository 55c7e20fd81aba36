-- Places that rise: a first one and others that lie after it; two such lists with the same places are equal.
use Rattle.std.proofs.Common.{ℕ, zero, suc, ◌<◌, List, [], ◌∷◌, inl, inr, ◌≡◌, refl, sym, arith, length, get_or}
use Rattle.drop_plan.specs.Conditions.{Rise, ◌∈◌}
use Rattle.drop_plan.proofs.Members.{at_in}

-- those that rise after the first do so too, and lie after it
pub later_rise : (k : ℕ) (ks : List ℕ) → Rise (k ∷ ks) → Rise ks
later_rise k ks r i j l h = r (suc i) (suc j) (omega arith) (omega arith)

in_at : (ks : List ℕ) (p : ℕ) → p ∈ ks → (i : ℕ) × (i < length ks) × (get_or ks i 0 ≡ p)
in_at [] p m = absurd m
in_at (k ∷ ks) p (inl e) = (0, omega arith, sym e)
in_at (k ∷ ks) p (inr m) = let h = in_at ks p m in (suc h.0, omega arith, h.2)

pub later_above : (k : ℕ) (ks : List ℕ) → Rise (k ∷ ks) → (p : ℕ) → p ∈ ks → k < p
later_above k ks r p m =
    let h = in_at ks p m in
    rw h.2 at (r 0 (suc h.0) (omega arith) (omega arith))

-- a place before others that rise
pub above_rises : (k : ℕ) (ks : List ℕ) → ((p : ℕ) → p ∈ ks → k < p) → Rise ks → Rise (k ∷ ks)
above_rises k ks h r i zero l m = absurd (omega arith)
above_rises k ks h r zero (suc j) l m = h _ (at_in ks j (omega arith))
above_rises k ks h r (suc i) (suc j) l m = r i j (omega arith) (omega arith)

-- the first of the one is the first of the other ..
same_first : (k : ℕ) (ks : List ℕ) (m : ℕ) (ms : List ℕ) → Rise (k ∷ ks) → Rise (m ∷ ms) → k ∈ (m ∷ ms) → m ∈ (k ∷ ks) → k ≡ m
same_first k ks m ms r s (inl e) b = e
same_first k ks m ms r s (inr a) (inl e) = sym e
same_first k ks m ms r s (inr a) (inr b) = absurd (let x = later_above m ms s k a in let y = later_above k ks r m b in omega arith)

-- .. and a later one is among the later ones
in_later : (k : ℕ) (ks ms : List ℕ) (p : ℕ) → k < p → p ∈ (k ∷ ms) → p ∈ ms
in_later k ks ms p l (inl e) = absurd (omega arith)
in_later k ks ms p l (inr m) = m

pub same_places : (ks ms : List ℕ) → Rise ks → Rise ms → ((p : ℕ) → p ∈ ks → p ∈ ms) → ((p : ℕ) → p ∈ ms → p ∈ ks) → ks ≡ ms
same_places [] [] r s f g = refl
same_places [] (m ∷ ms) r s f g = absurd (g m (inl refl))
same_places (k ∷ ks) [] r s f g = absurd (f k (inl refl))
same_places (k ∷ ks) (m ∷ ms) r s f g =
    let e = same_first k ks m ms r s (f k (inl refl)) (g m (inl refl)) in
    let there : (p : ℕ) → p ∈ ks → p ∈ ms = λ p a. in_later m ks ms p (rw (← e) (later_above k ks r p a)) (f p (inr a)) in
    let back : (p : ℕ) → p ∈ ms → p ∈ ks = λ p a. in_later k ms ks p (rw e (later_above m ms s p a)) (g p (inr a)) in
    rw (e, same_places ks ms (later_rise k ks r) (later_rise m ms s) there back)

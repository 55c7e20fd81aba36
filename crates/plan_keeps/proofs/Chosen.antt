-- Of packets, those at places that rise: going through the packets and asking for each whether its place is among them, or through the places, is the same.
use Rattle.std.proofs.Common.{ℕ, zero, suc, ◌+◌, ◌≤◌, ◌<◌, Bool, true, false, List, [], ◌∷◌, ◌++◌, map, append_assoc, ◌⊎◌, inl, inr, ◌≡◌, refl, sym, ◌∙◌, eq-or-lt_of_le, arith, length, take, drop, get_or, length-append, eq-eqb, ne_eqb}
use Rattle.std.proofs.Math.Seq.{drop-append_seam}
use Rattle.drop_plan.specs.Check.{among}
use Rattle.drop_plan.specs.Conditions.{Rise, ◌∈◌}
use Rattle.drop_plan.specs.Queue.{total}
use Rattle.drop_plan.proofs.Members.{among_in}
use Rattle.drop_plan.proofs.Rising.{later_above, later_rise}
use Rattle.round_trip.specs.Demand3.{Packet, bytes, keep}
use Rattle.plan_keeps.specs.Session.{chosen}

-- packet by packet, from a place on
abbrev pub asked : (at : ℕ) → (places : List ℕ) → List Packet → List Packet
asked at places [] = []
asked at places (p ∷ ps) = keep (among at places) (p ∷ []) ++ asked (suc at) places ps

-- a place that is passed is asked for no more
passed : (k at : ℕ) (ks : List ℕ) (ps : List Packet) → k < at → asked at (k ∷ ks) ps ≡ asked at ks ps
unfolding among
passed k at ks [] h = refl
passed k at ks (p ∷ ps) h = rw (ne_eqb k at (λ e. omega arith), passed k (suc at) ks ps (omega arith))

not_among : (at : ℕ) (ks : List ℕ) → ((p : ℕ) → p ∈ ks → at < p) → among at ks ≡ false
not_among at ks h = go (among at ks) refl
  where
    go : (b : Bool) → among at ks ≡ b → among at ks ≡ false
    go true e = absurd (let k = h at (among_in at ks e) in omega arith)
    go false e = e

-- the places lie among the packets from a place on
abbrev pub LieFrom : (at n : ℕ) → List ℕ → Type 0
LieFrom at n places = (p : ℕ) → p ∈ places → (at ≤ p) × (p < at + n)

-- one packet more stands before the others
one_more : (before : List Packet) (p : Packet) → length (before ++ (p ∷ [])) ≡ suc (length before)
one_more before p = length-append before (p ∷ []) ∙ omega arith

lie_later : (before : List Packet) (p : Packet) (ps : List Packet) (places : List ℕ) → LieFrom (length before) (length (p ∷ ps)) places
    → ((q : ℕ) → q ∈ places → length before < q)
    → LieFrom (length (before ++ (p ∷ []))) (length ps) places
lie_later before p ps places l above q m = let h = l q m in let k = above q m in let e = one_more before p in (omega arith, omega arith)

-- what is to be shown of the packets after the first
abbrev Later : (before : List Packet) (p : Packet) (ps : List Packet) → Type 0
Later before p ps =
    (ks : List ℕ) → Rise ks → LieFrom (length (before ++ (p ∷ []))) (length ps) ks → asked (suc (length before)) ks ps ≡ chosen ks (before ++ p ∷ ps)

-- the first packet is the first place's, or no place's
first_packet : (before : List Packet) (p : Packet) (ps : List Packet) (places : List ℕ) → Rise places → LieFrom (length before) (length (p ∷ ps)) places
    → Later before p ps
    → asked (length before) places (p ∷ ps) ≡ chosen places (before ++ p ∷ ps)
unfolding among
first_packet before p ps [] r l later = later [] r (λ q m. absurd m)
first_packet before p ps (k ∷ ks) r l later = go (eq-or-lt_of_le (l k (inl refl)).0)
  where
    go : (length before ≡ k) ⊎ (length before < k) → asked (length before) (k ∷ ks) (p ∷ ps) ≡ chosen (k ∷ ks) (before ++ p ∷ ps)
    go (inl e) =
        let here : drop k (before ++ p ∷ ps) ≡ p ∷ ps = rw (← e) (drop-append_seam before (p ∷ ps)) in
        let rest = later ks (later_rise k ks r) (lie_later before p ps ks (λ q m. l q (inr m)) (λ q m. let h = later_above k ks r q m in omega arith)) in
        rw (eq-eqb k (length before) (sym e), here, passed k (suc (length before)) ks ps (omega arith), rest)
    go (inr h) =
        let above : (q : ℕ) → q ∈ (k ∷ ks) → length before < q = λ q m. over q m in
        rw (not_among (length before) (k ∷ ks) above) (later (k ∷ ks) r (lie_later before p ps (k ∷ ks) l above))
      where
        over : (q : ℕ) → q ∈ (k ∷ ks) → length before < q
        over q (inl e) = omega arith
        over q (inr m) = let g = later_above k ks r q m in omega arith

pub asked_chosen : (before ps : List Packet) (places : List ℕ) → Rise places → LieFrom (length before) (length ps) places
    → asked (length before) places ps ≡ chosen places (before ++ ps)
asked_chosen before [] [] r l = refl
asked_chosen before [] (k ∷ ks) r l = let h = l k (inl refl) in absurd (omega arith)
asked_chosen before (p ∷ ps) places r l =
    first_packet before p ps places r l (λ ks r' l'. rw (one_more before p, append_assoc) at (asked_chosen (before ++ (p ∷ [])) ps ks r' l'))

-- the bytes of the packets at places, counted
counted : (ps : List Packet) (k : ℕ) (rest : List Packet) → length (bytes (take 1 (drop k ps) ++ rest)) ≡ get_or (map (λ (p : Packet). length p.bytes) ps) k 0 + length (bytes rest)
counted [] zero rest = omega arith
counted [] (suc k) rest = omega arith
counted (p ∷ ps) zero rest = length-append p.bytes (bytes rest)
counted (p ∷ ps) (suc k) rest = counted ps k rest

pub chosen_bytes : (places : List ℕ) (ps : List Packet) → length (bytes (chosen places ps)) ≡ total (map (λ (p : Packet). length p.bytes) ps) places
unfolding total
chosen_bytes [] ps = refl
chosen_bytes (k ∷ ks) ps = counted ps k (chosen ks ps) ∙ rw (chosen_bytes ks ps)

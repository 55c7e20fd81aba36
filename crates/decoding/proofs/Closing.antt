-- A closing refusal changes only the closed number: all else is as it was before the byte that settles it.
use Rattle.std.proofs.Common.{◌≡◌, ℕ, ◌+◌, ◌≤◌, Bool, true, false, eqb, ltb, List, [], ◌∷◌, ◌++◌, length, refl, ap, ◌∙◌, arith, ltb-false, ltb-true, eqb-true}
use borrow.Author.Tests.{eqb-false}
use Rattle.decoding.specs.Decoder.{Decoder}
use Rattle.byte_machine.specs.Reader.{Event, Go, Chunk, Message, Refuse}
use Rattle.decoding.specs.Answer.{Listed, message, more, refused}
use Rattle.decoding.specs.Call.{after, end, next, outcome, run, step_of}
use Rattle.decoding.proofs.Cut.{run_append}
use Rattle.decoding.proofs.Progress.{run_uses}
use Rattle.decoding.proofs.Runs.{next_closed, next_runs, next_short}

-- a decoder that is closed with this number, and otherwise the same
abbrev pub closing : Decoder → ℕ → Decoder
closing d k = record { setting = d.setting; closed = k; reader = d.reader; rows = d.rows }

-- a byte that is refused
pub refusal_only_closes : (d : Decoder) (b k : ℕ) → (step_of d b).event ≡ Refuse k → after d (step_of d b) ≡ closing d k
unfolding after
refusal_only_closes d b k e = rw e

-- a last byte is answered by a refusal only where it is refused
last_refused : (e : Event) (d : Decoder) (payload : List ℕ) (n k m : ℕ)
    → (end e d payload n (outcome (more n) d payload)).answer ≡ refused k m
    → e ≡ Refuse k
last_refused Go d payload n k m h = absurd (let z : ◌≡◌ {A = ℕ} 0 1 = cc in omega arith)
last_refused Chunk d payload n k m h = absurd (let z : ◌≡◌ {A = ℕ} 0 1 = cc in omega arith)
last_refused Message d payload n k m h = absurd (let z : ◌≡◌ {A = ℕ} 0 1 = cc in omega arith)
last_refused (Refuse j) d payload n k m h = ap Refuse (cc)

byte_only_closes : (d : Decoder) (x : ℕ) (payload : List ℕ) (n k m : ℕ) → (run (x ∷ []) d payload n).answer ≡ refused k m
    → (run (x ∷ []) d payload n).deserializer ≡ closing d k
unfolding run
byte_only_closes d x payload n k m h =
    let e = last_refused (step_of d x).event _ _ _ k m h in
    (rw e) ∙ refusal_only_closes d x k e

-- a run that is refused at its last byte leaves what the bytes before it leave, closed
pub run_only_closes : (a : List ℕ) (x : ℕ) (d : Decoder) (payload : List ℕ) (n k : ℕ)
    → (run (a ++ (x ∷ [])) d payload n).answer ≡ refused k (n + length a + 1)
    → (run (a ++ (x ∷ [])) d payload n).deserializer ≡ closing (run a d payload n).deserializer k
run_only_closes a x d payload n k h = by_answer (run a d payload n).answer refl
  where
    by_answer : (l : Listed) → (run a d payload n).answer ≡ l → (run (a ++ (x ∷ [])) d payload n).deserializer ≡ closing (run a d payload n).deserializer k
    by_answer (more m) e =
        let o = run a d payload n in
        let f : run (a ++ (x ∷ [])) d payload n ≡ run (x ∷ []) o.deserializer o.payload m = run_append a (x ∷ []) d payload n ∙ (rw e) in
        rw f (byte_only_closes o.deserializer x o.payload m k (n + length a + 1) (rw f at h))
    by_answer (message type stream time long m) e =
        let f : (run (a ++ (x ∷ [])) d payload n).answer ≡ message type stream time long m = (rw (run_append a (x ∷ []) d payload n, e)) in
        absurd (let z : ◌≡◌ {A = ℕ} 0 1 = cc in omega arith)
    by_answer (refused j m) e =
        let f : (run (a ++ (x ∷ [])) d payload n).answer ≡ refused j m = (rw (run_append a (x ∷ []) d payload n, e)) in
        let u : m ≤ n + length a = rw e at (run_uses a d payload n).most in
        let q : m ≡ n + length a + 1 = cc in
        absurd (omega (arith, u, q))

-- and so does a call
pub call_only_closes : (d : Decoder) (a : List ℕ) (x : ℕ) (payload : List ℕ) (k : ℕ)
    → (next d (a ++ (x ∷ [])) payload).answer ≡ refused k (length a + 1)
    → (next d (a ++ (x ∷ [])) payload).deserializer ≡ closing (next d a payload).deserializer k
call_only_closes d a x payload k h = by_cases (eqb d.closed 0) (ltb (length payload) d.setting.room) refl refl
  where
    none_used : {j : ℕ} → (next d (a ++ (x ∷ [])) payload).answer ≡ refused j 0 → ⊥
    none_used e = let q : 0 ≡ length a + 1 = cc in omega (arith, q)

    by_cases : (t u : Bool) → eqb d.closed 0 ≡ t → ltb (length payload) d.setting.room ≡ u
        → (next d (a ++ (x ∷ [])) payload).deserializer ≡ closing (next d a payload).deserializer k
    by_cases false u p q = absurd (none_used {j = d.closed} (rw (next_closed d (a ++ (x ∷ [])) payload (eqb-false _ _ p))))
    by_cases true true p q = absurd (none_used {j = 7} (rw (next_short d (a ++ (x ∷ [])) payload (eqb-true _ _ p) (ltb-true _ _ q))))
    by_cases true false p q =
        let f = next_runs d (a ++ (x ∷ [])) payload (eqb-true _ _ p) (ltb-false (length payload) d.setting.room q) in
        let g = next_runs d a payload (eqb-true _ _ p) (ltb-false (length payload) d.setting.room q) in
        let z : length a + 1 ≡ 0 + length a + 1 = omega arith in
        rw (f, g) (run_only_closes a x d payload 0 k ((rw f at h) ∙ ap (refused k) z))

-- An input may be cut anywhere: bytes are taken one by one, so a run over a ++ b is the run over a and, where that asks for more, the run over b from there.
use Rattle.std.proofs.Common.{◌≡◌, ℕ, ◌+◌, ◌≤◌, Bool, true, false, cond, not, eqb, ltb, ◌≢◌, List, [], ◌∷◌, ◌++◌, length, set, refl, ◌∙◌, add-zero, add_assoc, arith, length-set, ltb-false, eqb-true}
use Rattle.decoding.specs.Decoder.{Decoder}
use Rattle.byte_machine.specs.Reader.{Event, Go, Chunk, Message, Refuse, in_payload}
use Rattle.decoding.specs.Answer.{Listed, message, more, refused}
use Rattle.decoding.specs.Call.{Outcome, after, closes, end, next, outcome, run, step_of, writes}
use Rattle.byte_machine.specs.Payload.{pays}
use Rattle.decoding.proofs.Runs.{next_runs}

-- an outcome that asks for more goes on with b; any other stands
abbrev on_more : Listed → (ℕ → Outcome) → Outcome → Outcome
on_more (more used) f o = f used
on_more (message type stream time length used) f o = o
on_more (refused number used) f o = o

abbrev pub go_on : List ℕ → Outcome → Outcome
go_on b o = on_more o.answer (λ used. run b o.deserializer o.payload used) o

end_go_on : (e : Event) (d : Decoder) (payload : List ℕ) (n : ℕ) (b : List ℕ) (o o' : Outcome) → o ≡ go_on b o'
    → end e d payload n o ≡ go_on b (end e d payload n o')
end_go_on Go d payload n b o o' h = h
end_go_on Chunk d payload n b o o' h = h
end_go_on Message d payload n b o o' h = refl
end_go_on (Refuse k) d payload n b o o' h = refl

pub run_append : (a b : List ℕ) (d : Decoder) (payload : List ℕ) (n : ℕ) → run (a ++ b) d payload n ≡ go_on b (run a d payload n)
unfolding run
run_append [] b d payload n = refl
run_append (x ∷ a) b d payload n = end_go_on (step_of d x).event _ _ _ b _ _ (run_append a b (after d (step_of d x)) (writes d payload x) (n + 1))

-- the same answer, its used bytes counted from m on
abbrev later : ℕ → Listed → Listed
later m (message type stream time length used) = message type stream time length (m + used)
later m (more used) = more (m + used)
later m (refused number used) = refused number (m + used)

abbrev pub shift : ℕ → Outcome → Outcome
shift m o = outcome (later m o.answer) o.deserializer o.payload

end_shift : (e : Event) (d : Decoder) (payload : List ℕ) (m n n' : ℕ) (o o' : Outcome) → n' ≡ m + n → o ≡ shift m o'
    → end e d payload n' o ≡ shift m (end e d payload n o')
end_shift Go d payload m n n' o o' q h = h
end_shift Chunk d payload m n n' o o' q h = h
end_shift Message d payload m n n' o o' q h = rw q
end_shift (Refuse k) d payload m n n' o o' q h = rw q

pub run_shift : (b : List ℕ) (d : Decoder) (payload : List ℕ) (m n : ℕ) → run b d payload (m + n) ≡ shift m (run b d payload n)
unfolding run
run_shift [] d payload m n = refl
run_shift (x ∷ b) d payload m n =
    end_shift (step_of d x).event _ _ m (n + 1) _ _ _ (add_assoc m n 1)
    ((rw add_assoc) ∙ run_shift b (after d (step_of d x)) (writes d payload x) m (n + 1))

-- what a run leaves as it was
pub record Kept (d : Decoder) (payload : List ℕ) (o : Outcome) : Type 0 where
  pub room : o.deserializer.setting.room ≡ d.setting.room
  pub closed : (m : ℕ) → o.answer ≡ more m → o.deserializer.closed ≡ d.closed
  pub long : length o.payload ≡ length payload

pub long_writes : (d : Decoder) (payload : List ℕ) (x : ℕ) → length (writes d payload x) ≡ length payload
unfolding writes
long_writes d payload x = by_cases (in_payload d.reader.stage) (pays d.setting.room d.reader)
  where
    by_cases : (t u : Bool) → length (cond t (cond u (set payload d.reader.message.got x) payload) payload) ≡ length payload
    by_cases true true = simp length-set
    by_cases true false = refl
    by_cases false u = refl

-- an answer that is not more wanted
pub message_not_more : {A : Type 0} {type stream time length used m : ℕ} → message type stream time length used ≡ more m → A
message_not_more h = absurd (let z : ◌≡◌ {A = ℕ} 0 1 = cc in omega arith)

pub refused_not_more : {A : Type 0} {number used m : ℕ} → refused number used ≡ more m → A
refused_not_more h = absurd (let z : ◌≡◌ {A = ℕ} 0 1 = cc in omega arith)

end_kept : (e : Event) (d d' : Decoder) (payload payload' : List ℕ) (n : ℕ) (o : Outcome) → d'.setting.room ≡ d.setting.room
    → d'.closed ≡ closes e d.closed
    → length payload' ≡ length payload → Kept d' payload' o → Kept d payload (end e d' payload' n o)
end_kept Go d d' payload payload' n o p q r k = record { room = k.room ∙ p; closed = λ m e. k.closed m e ∙ q; long = k.long ∙ r }
end_kept Chunk d d' payload payload' n o p q r k = record { room = k.room ∙ p; closed = λ m e. k.closed m e ∙ q; long = k.long ∙ r }
end_kept Message d d' payload payload' n o p q r k = record { room = p; closed = λ m e. message_not_more e; long = r }
end_kept (Refuse j) d d' payload payload' n o p q r k = record { room = p; closed = λ m e. refused_not_more e; long = r }

pub run_kept : (a : List ℕ) (d : Decoder) (payload : List ℕ) (n : ℕ) → Kept d payload (run a d payload n)
unfolding run after
run_kept [] d payload n = record { room = refl; closed = λ m e. refl; long = refl }
run_kept (x ∷ a) d payload n =
    end_kept (step_of d x).event d (after d (step_of d x)) payload (writes d payload x) (n + 1) _ refl refl (long_writes d payload x)
    (run_kept a (after d (step_of d x)) (writes d payload x) (n + 1))

-- a call that asks for more has run
pub has_run : (d : Decoder) (a payload : List ℕ) (m : ℕ) → (next d a payload).answer ≡ more m → (d.setting.room ≤ length payload) × (d.closed ≡ 0)
unfolding next
has_run d a payload m = by_cases (eqb d.closed 0) (ltb (length payload) d.setting.room) refl refl
  where
    by_cases : (t u : Bool) → eqb d.closed 0 ≡ t → ltb (length payload) d.setting.room ≡ u
        → (cond (not t) (outcome (refused d.closed 0) d payload) (cond u (outcome (refused 7 0) d payload) (run a d payload 0))).answer ≡ more m
        → (d.setting.room ≤ length payload) × (d.closed ≡ 0)
    by_cases true true e f h = refused_not_more h
    by_cases true false e f h = (ltb-false _ _ f, eqb-true _ _ e)
    by_cases false u e f h = refused_not_more h

-- feeding a, and b to what that leaves, is feeding a ++ b
pub feed_append : (d : Decoder) (a b payload : List ℕ) (m : ℕ) → (next d a payload).answer ≡ more m
    → next d (a ++ b) payload ≡ shift m (next (next d a payload).deserializer b (next d a payload).payload)
feed_append d a b payload m h =
    let p = has_run d a payload m h in
    let e : next d a payload ≡ run a d payload 0 = next_runs d a payload p.1 p.0 in
    let k : Kept d payload (next d a payload) = rw e (run_kept a d payload 0) in
    let q : next (next d a payload).deserializer b (next d a payload).payload ≡ run b (next d a payload).deserializer (next d a payload).payload 0 =
    next_runs _ _ _ (k.closed m h ∙ p.1) (omega arith)
    in
    let s : go_on b (run a d payload 0) ≡ run b (next d a payload).deserializer (next d a payload).payload m = rw (← e, h) in
    next_runs d (a ++ b) payload p.1 p.0 ∙ run_append a b d payload 0 ∙ s
    ∙ (rw (q, ← run_shift b (next d a payload).deserializer (next d a payload).payload m 0, add-zero))

-- a call that answers otherwise answers the same whatever follows: what it left unread is offered again by the next call
pub feed_answered : (d : Decoder) (a b payload : List ℕ) → ((m : ℕ) → (next d a payload).answer ≢ more m) → next d (a ++ b) payload ≡ next d a payload
unfolding next
feed_answered d a b payload = by_cases (eqb d.closed 0) (ltb (length payload) d.setting.room)
  where
    answered : (o : Outcome) → ((m : ℕ) → o.answer ≢ more m) → go_on b o ≡ o
    answered o h = by_answer o.answer refl
      where
        by_answer : (l : Listed) → o.answer ≡ l → go_on b o ≡ o
        by_answer (more m) e = absurd (h m e)
        by_answer (message type stream time length used) e = rw e
        by_answer (refused number used) e = rw e

    by_cases : (t u : Bool)
        → ((m : ℕ) → (cond (not t) (outcome (refused d.closed 0) d payload) (cond u (outcome (refused 7 0) d payload) (run a d payload 0))).answer ≢ more m)
        → cond (not t) (outcome (refused d.closed 0) d payload) (cond u (outcome (refused 7 0) d payload) (run (a ++ b) d payload 0))
        ≡ cond (not t) (outcome (refused d.closed 0) d payload) (cond u (outcome (refused 7 0) d payload) (run a d payload 0))
    by_cases true true h = refl
    by_cases true false h = run_append a b d payload 0 ∙ answered (run a d payload 0) h
    by_cases false u h = refl

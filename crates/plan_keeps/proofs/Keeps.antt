-- An accepted plan keeps what demand 3 keeps: call by call, a packet is kept where its place is among the plan's, and only a droppable one is not.
use Rattle.std.proofs.Common.{ℕ, suc, ◌+◌, ◌≤◌, ◌<◌, Bool, true, false, List, [], ◌∷◌, ◌++◌, map, append_assoc, ◌≡◌, refl, sym, ap, ◌∙◌, arith, length}
use Rattle.std.proofs.lemmas.List.{length-map}
use Rattle.fields.proofs.Tests.{clash}
use Rattle.serializer.specs.declared.ChunkSerializer.{ChunkSerializer}
use Rattle.serializer.specs.Answer.{Answer as Written, wrote, refused as not_written}
use Rattle.serializer.specs.Remembered.{fresh}
use Rattle.drop_plan.specs.Answer.{accepted}
use Rattle.drop_plan.specs.Check.{among, judged}
use Rattle.drop_plan.specs.Conditions.{AllHold, conditions}
use Rattle.drop_plan.specs.Queue.{droppable, size}
use Rattle.drop_plan.proofs.Conditions.{check_judges}
use Rattle.drop_plan.proofs.Members.{in_among}
use Rattle.round_trip.specs.Demand3.{Call, LeavesOutDroppable, Packet, Sending, bytes, encodes, keep, kept, may_be_left_out, packets_of}
use Rattle.round_trip.proofs.Demand3.{demand_3}
use Rattle.plan_keeps.specs.Session.{Accepted, PlanKeeps, Queued, Stretch, WithinLimits, after_calls, chosen, is_kept, next_place, packets, planned, queue_of, queued, run, sendings}
use Rattle.plan_keeps.proofs.Chosen.{asked, asked_chosen, chosen_bytes}

-- the packets that a call puts behind the others, each with the call
abbrev queued_of : Call → Written → List ℕ → List Queued
queued_of c w output = map (λ (p : Packet). record { call = c; packet = p }) (packets_of c w output)

-- a call's packet, if it has one, is kept where its place is among the plan's
module _ (c : Call) (output : List ℕ) (at : ℕ) (places : List ℕ) where
  kept_call : (w : Written) (qs : List Queued)
      → keep (is_kept w at places) (packets_of c w output) ++ asked (next_place w at) places (packets qs) ≡ asked at places (packets (queued_of c w output ++ qs))
  kept_call (wrote n) qs = refl
  kept_call (not_written number) qs = refl

kept_asked : (calls : List Call) (s : ChunkSerializer) (at : ℕ) (places : List ℕ) (later : List Sending)
    → kept s (sendings s at places calls ++ later) ≡ asked at places (packets (queued s calls)) ++ kept (after_calls s calls) later
kept_asked [] s at places later = refl
kept_asked (c ∷ cs) s at places later =
    let o = encodes s c in
    let first = keep (is_kept o.answer at places) (packets_of c o.answer o.output) in
    ap (λ (ps : List Packet). first ++ ps) (kept_asked cs o.serializer (next_place o.answer at) places later)
    ∙ sym (append_assoc first (asked (next_place o.answer at) places (packets (queued o.serializer cs))) (kept (after_calls o.serializer cs) later))
    ∙ ap (λ (ps : List Packet). ps ++ kept (after_calls o.serializer cs) later) (kept_call c o.output at places o.answer (queued o.serializer cs))

-- every packet from a place on that is not droppable is among the plan's
abbrev Included : (at : ℕ) → (places : List ℕ) → List Queued → Type 0
Included at places qs = (i : ℕ) → i < length qs → droppable (queue_of qs) i ≡ false → among (at + i) places ≡ true

-- so a call's packet that is left out is droppable
module _ (c : Call) (output : List ℕ) (at : ℕ) (places : List ℕ) where
  left_out : (w : Written) (qs : List Queued) → Included at places (queued_of c w output ++ qs)
      → (is_kept w at places ≡ false → may_be_left_out c ≡ true) × Included (next_place w at) places qs
  left_out (wrote n) qs h = (λ e. go (may_be_left_out c) refl e, λ i l d. let k : at + suc i ≡ suc at + i = omega arith in rw k at (h (suc i) (omega arith) d))
    where
      go : (b : Bool) → may_be_left_out c ≡ b → among at places ≡ false → may_be_left_out c ≡ true
      go true e f = e
      go false e f =
          let k : at + 0 ≡ at = omega arith in
          clash f (rw k at (h 0 (omega arith) e))
  left_out (not_written number) qs h = (λ e. clash e refl, h)

leaves : (calls : List Call) (s : ChunkSerializer) (at : ℕ) (places : List ℕ) → Included at places (queued s calls) → LeavesOutDroppable (sendings s at places calls)
leaves [] s at places h = tt
leaves (c ∷ cs) s at places h =
    let o = encodes s c in
    let l = left_out c o.output at places o.answer (queued o.serializer cs) h in
    (l.0, leaves cs o.serializer (next_place o.answer at) places l.1)

leaves_both : (xs ys : List Sending) → LeavesOutDroppable xs → LeavesOutDroppable ys → LeavesOutDroppable (xs ++ ys)
leaves_both [] ys a b = b
leaves_both (x ∷ xs) ys a b = (a.0, leaves_both xs ys a.1 b)

-- one stretch
module _ (s : ChunkSerializer) (x : Stretch) (a : judged (queue_of (queued s x.calls)) x.limit x.places ≡ accepted) where
  abbrev qs : List Queued
  qs = queued s x.calls

  held : AllHold (conditions (queue_of qs) x.limit x.places)
  held = (check_judges (queue_of qs) x.limit x.places).accepts.0 a

  sized : size (queue_of qs) ≡ length qs
  sized = length-map (packets qs) (λ (p : Packet). length p.bytes) ∙ length-map qs (λ (x : Queued). x.packet)

  stretch_leaves : LeavesOutDroppable (sendings s 0 x.places x.calls)
  stretch_leaves = leaves x.calls s 0 x.places (λ i l d. let k : 0 + i ≡ i = omega arith in rw k (in_among i x.places (held.1.1.1.0 i (rw sized l) d)))

  stretch_keeps : asked 0 x.places (packets qs) ≡ chosen x.places (packets qs)
  stretch_keeps = asked_chosen [] (packets qs) x.places held.1.0 (λ p m. let h = held.1.1.0 p m in let e = length-map (packets qs) (λ (p : Packet). length p.bytes) in (omega arith, omega arith))

  stretch_within : length (bytes (chosen x.places (packets qs))) ≤ x.limit
  stretch_within = rw (chosen_bytes x.places (packets qs)) held.1.1.1.1.0

-- one after the other
session_leaves : (xs : List Stretch) (s : ChunkSerializer) → Accepted s xs → LeavesOutDroppable (run s xs)
session_leaves [] s a = tt
session_leaves (x ∷ xs) s a =
    leaves_both (sendings s 0 x.places x.calls) (run (after_calls s x.calls) xs) (stretch_leaves s x a.0) (session_leaves xs (after_calls s x.calls) a.1)

session_keeps : (xs : List Stretch) (s : ChunkSerializer) → Accepted s xs → kept s (run s xs) ≡ planned s xs
session_keeps [] s a = refl
session_keeps (x ∷ xs) s a =
    kept_asked x.calls s 0 x.places (run (after_calls s x.calls) xs)
    ∙ rw (stretch_keeps s x a.0, session_keeps xs (after_calls s x.calls) a.1)

session_within : (xs : List Stretch) (s : ChunkSerializer) → Accepted s xs → WithinLimits s xs
session_within [] s a = tt
session_within (x ∷ xs) s a = (stretch_within s x a.0, session_within xs (after_calls s x.calls) a.1)

pub plan_keeps : PlanKeeps
plan_keeps session a =
    let leaving = session_leaves session fresh a in
    let keeping = session_keeps session fresh a in
    record {
      leaves_out = leaving;
      keeps = keeping;
      within = session_within session fresh a;
      hands_out = λ room buffer schedule r some most fit long.
          rw keeping at (demand_3 (run fresh session) room buffer schedule r leaving some most (rw keeping fit) long);
    }

-- A turn takes the run from its place to the place after it; a message or a refusal ends it, and the input's end does.
use Rattle.std.proofs.Common.{get_or, ◌≤◌, ◌≢◌, ℕ, ◌+◌, ◌-◌, ◌≡◌, ◌∙◌, List, arith, drop, length, take}
use Rattle.decoding.specs.Answer.{Listed, more}
use Rattle.decoding.specs.Call.{outcome, run}
use Rattle.decoding.proofs.Runs.{run_end}
use Rattle.held.specs.Done.{settled_by}
use Rattle.held.specs.declared.done.Event.TheVariants.{Go, Chunk, Message}
use Rattle.held.specs.Numbers.{again, decode}
use Rattle.one_stroke.specs.Lent.{Lent}
use Rattle.in_place.specs.declared.paying.Moved.{Moved}
use Rattle.in_place.specs.Answer.{answer_of}
use Rattle.in_place.specs.Turn.{Turned, follows}
use Rattle.in_place.proofs.Stepping.{lent, turned_on, turned_within}
use Rattle.in_place.proofs.turning.turns.Goals as goal

-- a turn over the rest of the input from a place on, where the rest of the run is the whole run
module _ (m : Moved) (held₀ rows₀ payload₀ held rows input : List ℕ) (at : ℕ) (payload held' rows' payload' : List ℕ)
    (t : Turned m held rows (take (length input - at) (drop at input)) payload held' rows' payload')
    (runs : run input (decode held₀ rows₀) payload₀ 0 ≡ run (drop at input) (decode held rows) payload at) where
  -- the whole run is what follows the turn
  whole_run : run input (decode held₀ rows₀) payload₀ 0 ≡ follows (settled_by m.event) (decode held' rows') payload' (at + m.used) (drop (at + m.used) input)
  whole_run = runs ∙ turned_on m held rows input at payload held' rows' payload' t

  -- an answer after the turn
  answered : (answer : Listed) → follows (settled_by m.event) (decode held' rows') payload' (at + m.used) (drop (at + m.used) input) ≡ outcome answer (decode held' rows') payload'
      → Lent answer held' rows' payload' (run input (decode held₀ rows₀) payload₀ 0)
  answered answer e = lent (run input (decode held₀ rows₀) payload₀ 0) answer held' rows' payload' held' (whole_run ∙ e) t.kept

  -- what the loop keeps, where the run goes on after the turn
  gone_on : at ≤ length input → length payload' ≡ length payload₀ → get_or held 0 0 ≤ length payload₀
      → follows (settled_by m.event) (decode held' rows') payload' (at + m.used) (drop (at + m.used) input) ≡ run (drop (at + m.used) input) (decode held' rows') payload' (at + m.used)
      → (at + m.used ≤ length input) × (length payload' ≡ length payload₀) × (get_or held' 0 0 ≤ length payload₀) × (at + m.used ≢ 0 → held' ≡ again held')
      × (run input (decode held₀ rows₀) payload₀ 0 ≡ run (drop (at + m.used) input) (decode held' rows') payload' (at + m.used))
  gone_on k long room e = (turned_within m held rows input at payload held' rows' payload' t k, long, omega (arith, t.room, room), (λ _. t.kept), whole_run ∙ e)

pub returns-in-Ok-Message : goal.returns-in-Ok-Message
returns-in-Ok-Message c =
    let a = c.args in
    let l = c.loop-at in
    let t = c.turn-moved in
    let d = decode t.new.held t.new.rows in
    answered t.result a.held.now a.rows.now a.payload.now l.held l.rows a.input.now l.at l.payload t.new.held t.new.rows t.new.payload t.ensures l.invariant.4 (answer_of c.handed.result)
    (let is : c.in-Ok-Message.field-0 ≡ Message = rw c.in-Ok-Message.is at c.in-Ok-Message.field-0-is in rw (c.in-Ok-Message.is, is, c.handed.ensures))

pub returns-in-Err : goal.returns-in-Err
returns-in-Err c =
    let a = c.args in
    let l = c.loop-at in
    let t = c.turn-moved in
    let d = decode t.new.held t.new.rows in
    answered t.result a.held.now a.rows.now a.payload.now l.held l.rows a.input.now l.at l.payload t.new.held t.new.rows t.new.payload t.ensures l.invariant.4 (answer_of c.refused.result)
    (rw (c.in-Err.is, c.refused.ensures, c.number.ensures))

pub loop-at-preserved-in-Ok-Go : goal.loop-at-preserved-in-Ok-Go
loop-at-preserved-in-Ok-Go c =
    let a = c.args in
    let l = c.loop-at in
    let t = c.turn-moved in
    let is : c.in-Ok-Go.field-0 ≡ Go = rw c.in-Ok-Go.is at c.in-Ok-Go.field-0-is in
    gone_on t.result a.held.now a.rows.now a.payload.now l.held l.rows a.input.now l.at l.payload t.new.held t.new.rows t.new.payload t.ensures l.invariant.4
    l.invariant.0
    (t.auto.payload ∙ l.invariant.1)
    l.invariant.2
    (rw (c.in-Ok-Go.is, is))

pub loop-at-preserved : goal.loop-at-preserved
loop-at-preserved c =
    let a = c.args in
    let l = c.loop-at in
    let t = c.turn-moved in
    let is : c.in-Ok-Chunk.field-0 ≡ Chunk = rw c.in-Ok-Chunk.is at c.in-Ok-Chunk.field-0-is in
    gone_on t.result a.held.now a.rows.now a.payload.now l.held l.rows a.input.now l.at l.payload t.new.held t.new.rows t.new.payload t.ensures l.invariant.4
    l.invariant.0
    (t.auto.payload ∙ l.invariant.1)
    l.invariant.2
    (rw (c.in-Ok-Chunk.is, is))

pub returns : goal.returns
returns c =
    let a = c.args in
    let l = c.loop-at in
    lent (run a.input.now (decode a.held.now a.rows.now) a.payload.now 0) (more l.at) l.held l.rows l.payload l.held
    (l.invariant.4 ∙ run_end (decode l.held l.rows) a.input.now l.payload l.at l.at c.loop-at-test.false)
    (l.invariant.3 (λ z. absurd (omega (arith, z, c.requires.0, c.loop-at-test.false))))

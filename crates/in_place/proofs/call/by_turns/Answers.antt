-- What is answered at once leaves the decoder, in the numbers that stand for it; else the run.
use Rattle.std.proofs.Common.{◌≤◌, sym, ap, subst, ◌∙◌, arith, get_or, length}
use Rattle.decoding.specs.Answer.{Listed, more}
use Rattle.decoding.specs.Call.{Outcome, next, outcome}
use Rattle.decoding.proofs.Runs.{next_closed, next_runs, next_short, run_end}
use Rattle.held.specs.Numbers.{decode}
use Rattle.one_stroke.specs.Lent.{Lent}
use Rattle.in_place.specs.Answer.{answer_of}
use Rattle.in_place.proofs.Stepping.{lent}
use Rattle.in_place.proofs.call.by_turns.Goals as goal

pub returns-then-closed-ne0 : goal.returns-then-closed-ne0
returns-then-closed-ne0 c =
    let a = c.args in
    let d = decode a.held.now a.rows.now in
    lent (next d a.input.now a.payload.now) (answer_of c.refused.result) a.held.now a.rows.now a.payload.now c.renew.new.held
    (next_closed d a.input.now a.payload.now c.if-closed-ne0.true ∙ ap (λ (x : Listed). outcome x d a.payload.now) (sym c.refused.ensures))
    c.renew.ensures

pub returns-then-payload-held : goal.returns-then-payload-held
returns-then-payload-held c =
    let a = c.args in
    let d = decode a.held.now a.rows.now in
    lent (next d a.input.now a.payload.now) (answer_of c.refused-then-payload-held.result) a.held.now a.rows.now a.payload.now c.renew-then-payload-held.new.held
    (next_short d a.input.now a.payload.now c.if-closed-ne0.false (omega (arith, c.if-payload-held.true))
    ∙ ap (λ (x : Listed). outcome x d a.payload.now) (sym c.refused-then-payload-held.ensures))
    c.renew-then-payload-held.ensures

pub returns-then-input-eq0 : goal.returns-then-input-eq0
returns-then-input-eq0 c =
    let a = c.args in
    let d = decode a.held.now a.rows.now in
    let room : get_or a.held.now 0 0 ≤ length a.payload.now = omega (arith, c.if-payload-held.false) in
    lent (next d a.input.now a.payload.now) (more 0) a.held.now a.rows.now a.payload.now c.renew-then-input-eq0.new.held
    (next_runs d a.input.now a.payload.now c.if-closed-ne0.false room
    ∙ run_end d a.input.now a.payload.now 0 0 (omega (arith, c.if-input-eq0.true)))
    c.renew-then-input-eq0.ensures

pub returns : goal.returns
returns c =
    let a = c.args in
    let d = decode a.held.now a.rows.now in
    let t = c.turns in
    let room : get_or a.held.now 0 0 ≤ length a.payload.now = omega (arith, c.if-payload-held.false) in
    subst (λ (o : Outcome). Lent (answer_of t.result) t.new.held t.new.rows t.new.payload o)
    (sym (next_runs d a.input.now a.payload.now c.if-closed-ne0.false room))
    t.ensures

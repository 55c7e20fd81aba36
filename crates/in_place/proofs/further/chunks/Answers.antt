-- One more chunk, taken after those so far.
use Rattle.std.proofs.Common.{◌≡◌, ◌+◌, ap, refl, ◌∙◌, ℕ, min, arith}
use Rattle.in_place.proofs.Following.{goes_more}
use Rattle.in_place.proofs.further.chunks.Goals as goal

pub loop-at-preserved : goal.loop-at-preserved
loop-at-preserved c =
    let a = c.args in
    let l = c.loop-at in
    let n = c.min-left in
    let t = c.take_chunk in
    let more = goes_more a.size a.id a.length a.come a.input.now a.start a.payload.now (record { got = l.got; at = l.at }) n.result n.result l.payload t.new.payload l.invariant.0 (c.stops.ensures c.if-stops.false) (n.ensures ∙ ap (λ (x : ℕ). min a.size x) c.saturating_sub.ensures) t.ensures refl in
    let place : l.at + 1 + n.result ≡ l.at + (1 + n.result) = omega arith in
    (rw place at more, t.auto.payload ∙ l.invariant.1)

-- No chunk follows, and nothing has changed; or some do, and the numbers are stored after them.
use Rattle.in_place.proofs.Following.{follows_some}
use Rattle.in_place.proofs.further.further.Goals as goal

pub returns : goal.returns
returns c =
    let a = c.args in
    let g = c.chunks-gone in
    follows_some a.held.now a.rows.now a.input.now a.at c.in-Some.place a.payload.now c.row_in-row.result
    (c.is_apart.ensures c.if-is_apart.false)
    c.in-Some.ensures.found
    c.in-Some.ensures.within
    c.row_in-row.ensures
    (c.is_other.ensures c.if-is_other.false)
    g.result
    c.gone_to.result
    g.new.payload
    g.ensures
    c.if-gone-at.false
    c.gone_to.ensures

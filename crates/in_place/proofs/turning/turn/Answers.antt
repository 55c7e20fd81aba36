-- A turn that ends a chunk goes on with the chunks that follow.
use Rattle.std.proofs.Common.{ap, ◌∙◌, Ok}
use Rattle.held.specs.declared.done.Event.{Event}
use Rattle.in_place.proofs.Following.{turned_further}
use Rattle.in_place.proofs.turning.turn.Goals as goal

pub returns : goal.returns
returns c =
    let a = c.args in
    let o = c.once-moved in
    let f = c.further in
    turned_further o.result f.result a.held.now a.rows.now a.input.now a.payload.now o.new.held o.new.rows o.new.payload f.new.held f.new.payload o.ensures (c.in-Ok-Chunk.is ∙ ap (λ (e : Event). Ok e) (rw c.in-Ok-Chunk.is at c.in-Ok-Chunk.field-0-is)) f.ensures

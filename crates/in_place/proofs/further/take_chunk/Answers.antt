-- The bytes go to their own places.
use Rattle.std.proofs.Common.{refl, ◌+◌, ◌∙◌}
use Rattle.decoding.proofs.FurtherOn.{stored_piece}
use Rattle.in_place.proofs.further.take_chunk.Goals as goal

pub returns : goal.returns
returns c =
    let a = c.args in
    c.put_bytes.ensures
    ∙ stored_piece a.payload.now a.input.now (a.at + 1) a.left a.got a.left a.got refl refl c.requires.0 c.requires.1

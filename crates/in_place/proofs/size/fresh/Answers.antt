-- The numbers of a decoder to which nothing has come, which mean it.
use Rattle.std.proofs.Common.{◌≡◌, refl, arith}
use Rattle.decoding.specs.Told.{fresh}
use Rattle.held.specs.Numbers.{encode}
use Rattle.held.proofs.Again.{decode_encode}
use Rattle.in_place.proofs.size.fresh.Goals as goal

pub returns : goal.returns
returns c =
    let numbers : c.numbers_of.result ≡ encode (fresh c.args.room c.args.closed) = rw c.claimed-row.ensures at c.numbers_of.ensures in
    record { numbers = numbers; table = refl; means = rw numbers (decode_encode (fresh c.args.room c.args.closed) (omega arith)) }

-- The number of the bytes in the other order, most significant first, is the number least significant first.
use Rattle.std.proofs.Common.{◌≡◌, ap, ◌∙◌, arith}
use Rattle.fields.specs.Endian.{big_endian, gather, little_endian, swapped}
use Rattle.fields.proofs.Endian.{big_little}
use Rattle.serializer.proofs.Added.{added_same}
use Rattle.serializer.proofs.cursor.Cursor.message_stream_id.Goals as goal

other_order : (c : goal.After-number) → c.swap_bytes.result ≡ swapped c.args.header.message_stream_id
unfolding gather little_endian
other_order c = omega (arith, c.swap_bytes.ensures)

pub returns : goal.returns
returns c = added_same (ap (big_endian 4) (other_order c) ∙ big_little 4 c.args.header.message_stream_id) c.number.ensures

-- Type by type: those of type 0 and 1 have a message type, which its length says.
use Rattle.std.proofs.Common.{◌≤◌, arith, length}
use Rattle.chunk_header.specs.Table.{field_length, header_length}
use Rattle.one_stroke.proofs.message.carried.Goals as goal

pub with_type-requires : goal.with_type-requires
unfolding header_length field_length
with_type-requires c =
    let long : 12 ≤ length c.args.input.now = rw c.in-Full.is at c.requires in
    omega (arith, long)

pub with_type-requires-in-TimeDeltaWithoutMessageStreamId : goal.with_type-requires-in-TimeDeltaWithoutMessageStreamId
unfolding header_length field_length
with_type-requires-in-TimeDeltaWithoutMessageStreamId c = rw c.in-TimeDeltaWithoutMessageStreamId.is at c.requires

-- Heads of at most 16 bytes, one for each chunk, and the payload once: the sum is the packet's length.
use Rattle.std.proofs.Common.{length, sym, ap, arith}
use Rattle.serializer.proofs.Later.{chunked_one}
use Rattle.serializer.proofs.PacketLength.{length_chunk, length_packet}
use Rattle.serializer.proofs.plan.Plan.length.Goals as goal

pub returns-then-self : goal.returns-then-self
returns-then-self c =
    let p = c.args.self.now in
    let one = chunked_one p.first.format p.later p.first.header p.size p.payload.now (omega arith) (omega arith) (omega arith) in
    omega (arith, c.chunk_length-first.ensures, ap length one, length_chunk p.first.format p.first.header p.payload.now)

pub returns : goal.returns
returns c =
    let p = c.args.self.now in
    rw (c.chunk_length-first.ensures, c.chunk_length.ensures) (sym (length_packet p.first.format p.later p.first.header p.size p.payload.now (omega arith) (omega arith)))

-- The invariant says nothing of the past: storing the chunks that are left from here is storing all of them from the start.
use Rattle.std.proofs.Common.{◌≡◌, ◌+◌, ◌≤◌, length}
use Rattle.std.specs.Slice.Iter.{chunks_rest, chunks_size}
use Rattle.fields.specs.Output.{over, stored}
use Rattle.serializer.specs.Packet.{chunked}
use Rattle.serializer.specs.Plan.{bytes_of}
use Rattle.serializer.proofs.plan.Plan.write.Given as goal

abbrev pub invariant-loop-piece : goal.invariant-loop-piece
invariant-loop-piece l = record {
  left : stored l.cursor.output.now l.cursor.at (chunked l.self.later l.self.later l.self.first.header l.self.size (chunks_rest l.piece-iterator)) ≡ over (bytes_of l.self) l.fn.output;
  fits : l.cursor.at + length (chunked l.self.later l.self.later l.self.first.header l.self.size (chunks_rest l.piece-iterator)) ≤ length l.cursor.output.now;
  same : l.cursor.output.ghost_name ≡ l.initial.cursor.output.ghost_name;
  size : chunks_size l.piece-iterator ≡ l.self.size;
}

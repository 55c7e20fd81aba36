-- Each chunk is stored, and what is left is stored after it.
use Rattle.std.proofs.Common.{◌≡◌, ℕ, ◌+◌, ◌≤◌, List, [], ◌++◌, length, refl, sym, ap, ◌∙◌, arith, length-append, take-append-drop, rules}
use Rattle.std.specs.Slice.Iter.{chunks_rest}
use Rattle.std.proofs.lemmas.List.{nil_from_length}
use Rattle.chunk_header.specs.declared.ChunkHeaderFormat.{ChunkHeaderFormat}
use Rattle.chunk_header.specs.Layout.{chunk_bytes}
use Rattle.fields.specs.Output.{Adds, over, stored}
use Rattle.fields.proofs.Lists.{stored_append, stored_nil, stored_over}
use Rattle.serializer.specs.declared.plan.Plan.{Plan}
use Rattle.serializer.specs.Packet.{chunk, chunked}
use Rattle.serializer.specs.Plan.{bytes_of}
use Rattle.serializer.proofs.Later.{chunked_none, chunked_piece}
use Rattle.serializer.proofs.plan.Plan.write.Goals as goal

-- a chunk's bytes, and those of the later chunks of what is left
abbrev now : Plan → ChunkHeaderFormat → List ℕ → List ℕ
now p f piece = chunk_bytes (chunk f p.first.header piece)

abbrev later : Plan → List ℕ → List ℕ
later p left = chunked p.later p.later p.first.header p.size left

-- some bytes fit where they and others after them do
fit : (all first left out : List ℕ) (at : ℕ) → all ≡ first ++ left → at + length all ≤ length out → at + length first ≤ length out
fit all first left out at e h = omega (arith, ap length e, length-append first left)

-- they are added, and the others are stored after them
turn : (all first left out : List ℕ) {o : List ℕ} {at next : ℕ} → all ≡ first ++ left → at + length all ≤ length out → Adds out at first next o
    → (stored o next left ≡ stored out at all) × (next + length left ≤ length out)
turn all first left out {o} {at} {next} e h a =
    let rest : next + length left ≤ length out = omega (arith, a.place, ap length e, length-append first left) in
    (rw (a.left, e) (stored_append out first left at next a.place rest), rest)

-- a chunk whose format is the one that was counted fits where that one does, and adds its bytes
same_fits : (p : Plan) (f counted : ChunkHeaderFormat) (piece : List ℕ) (at n : ℕ) → f ≡ counted → at + length (now p counted piece) ≤ n → at + length (now p f piece) ≤ n
same_fits p f counted piece at n same fits = rw same fits

same_added : (p : Plan) (f counted : ChunkHeaderFormat) (piece out : List ℕ) (at : ℕ) {o : List ℕ} {next : ℕ} → f ≡ counted → Adds out at (now p f piece) next o
    → Adds out at (now p counted piece) next o
same_added p f counted piece out at same added = rw same at added

pub chunk-requires : goal.chunk-requires
chunk-requires c =
    let p = c.args.self.now in
    let s = c.split_at in
    let cut : p.payload.now ≡ s.result.0.now ++ s.result.1.now = rw (s.ensures.front, s.ensures.back) (sym (take-append-drop c.min.result p.payload.now)) in
    let piece = chunked_piece p.first.format p.later p.first.header p.size p.payload.now s.result.0.now s.result.1.now (omega arith) (omega arith) cut (omega arith) in
    let fits : 0 + length (now p p.first.format s.result.0.now) ≤ length c.args.output.now =
    fit (bytes_of p) (now p p.first.format s.result.0.now) (later p s.result.1.now) c.args.output.now 0 piece (omega arith)
    in
    (p.stream, same_fits p _ p.first.format s.result.0.now 0 (length c.args.output.now) (search rules) fits)

pub loop-piece-init : goal.loop-piece-init
loop-piece-init c =
    let p = c.args.self.now in
    let s = c.split_at in
    let cut : p.payload.now ≡ s.result.0.now ++ s.result.1.now = rw (s.ensures.front, s.ensures.back) (sym (take-append-drop c.min.result p.payload.now)) in
    let piece = chunked_piece p.first.format p.later p.first.header p.size p.payload.now s.result.0.now s.result.1.now (omega arith) (omega arith) cut (omega arith) in
    let next = turn (bytes_of p) (now p p.first.format s.result.0.now) (later p s.result.1.now) c.args.output.now piece (omega arith) (same_added p _ p.first.format s.result.0.now c.args.output.now 0 (search rules) c.chunk.ensures.adds) in
    record {
      left = rw (c.into_iter-piece-iterator.ensures.into_iter_gives, c.chunks-piece-items.ensures.rest) (next.0 ∙ stored_over [] (bytes_of p) c.args.output.now 0 refl (omega arith));
      fits = rw (c.into_iter-piece-iterator.ensures.into_iter_gives, c.chunks-piece-items.ensures.rest, c.chunk.ensures.whole) next.1;
      same = refl;
      size = rw (c.into_iter-piece-iterator.ensures.into_iter_gives) c.chunks-piece-items.ensures.size;
    }

pub chunk-requires-in-loop-piece : goal.chunk-requires-in-loop-piece
chunk-requires-in-loop-piece c =
    let p = c.args.self.now in
    let l = c.loop-piece in
    let s = c.in-Some.ensures.steps in
    let piece = chunked_piece p.later p.later p.first.header p.size (chunks_rest l.piece-iterator) c.in-Some.piece.now (chunks_rest c.next.new.self) (omega arith) (omega (arith, s)) s.1.0 (rw l.invariant.size at s.1.1) in
    let fits : l.cursor.at + length (now p p.later c.in-Some.piece.now) ≤ length l.cursor.output.now =
    fit (later p (chunks_rest l.piece-iterator)) (now p p.later c.in-Some.piece.now) (later p (chunks_rest c.next.new.self)) l.cursor.output.now l.cursor.at piece l.invariant.fits
    in
    (p.stream, same_fits p _ p.later c.in-Some.piece.now l.cursor.at (length l.cursor.output.now) (search rules) fits)

pub loop-piece-preserved : goal.loop-piece-preserved
loop-piece-preserved c =
    let p = c.args.self.now in
    let l = c.loop-piece in
    let s = c.in-Some.ensures.steps in
    let piece = chunked_piece p.later p.later p.first.header p.size (chunks_rest l.piece-iterator) c.in-Some.piece.now (chunks_rest c.next.new.self) (omega arith) (omega (arith, s)) s.1.0 (rw l.invariant.size at s.1.1) in
    let next = turn (later p (chunks_rest l.piece-iterator)) (now p p.later c.in-Some.piece.now) (later p (chunks_rest c.next.new.self)) l.cursor.output.now piece l.invariant.fits (same_added p _ p.later c.in-Some.piece.now l.cursor.output.now l.cursor.at (search rules) c.chunk-in-loop-piece.ensures.adds) in
    record {
      left = next.0 ∙ l.invariant.left;
      fits = rw c.chunk-in-loop-piece.ensures.whole next.1;
      same = c.chunk-in-loop-piece.ensures.same ∙ l.invariant.same;
      size = s.0 ∙ l.invariant.size;
    }

pub returns : goal.returns
returns c =
    let p = c.args.self.now in
    let l = c.loop-piece in
    let none : chunks_rest l.piece-iterator ≡ [] = nil_from_length (chunks_rest l.piece-iterator) c.in-None.ensures.steps.1.0 in
    let done : l.cursor.output.now ≡ over (bytes_of p) c.args.output.now =
    sym (stored_nil l.cursor.output.now l.cursor.at) ∙ ap (stored l.cursor.output.now l.cursor.at) (sym (ap (later p) none ∙ chunked_none p.later p.later p.first.header p.size p.cut)) ∙ l.invariant.left
    in
    let same = l.invariant.same ∙ c.chunk.ensures.same in
    search rules

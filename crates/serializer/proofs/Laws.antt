-- What later crates lean on: what is left after a refusal and after a droppable message.
use Rattle.std.proofs.Common.{ℕ, ◌≡◌, ap, Bool, true, false, cond, List, arith, ltb, eqb, length}
use Rattle.std.proofs.Math.Bool.{or-true}
use Rattle.chunk_header.specs.declared.ChunkHeader.{ChunkHeader}
use Rattle.chunk_header.specs.declared.ChunkHeaderFormat.TheVariants.{Full}
use Rattle.serializer.specs.declared.ChunkSerializer.{ChunkSerializer}
use Rattle.serializer.specs.declared.format.Message.{Message}
use Rattle.serializer.specs.Answer.{refused}
use Rattle.serializer.specs.Header.{format, header}
use Rattle.serializer.specs.Remembered.{packet_of}
use Rattle.serializer.specs.Serialize.{Outcome, refuse, accept, sent, serialized}
use Rattle.chunk_header.specs.Limits.{max_length}

-- after a droppable message the next on its stream is type 0
pub after_droppable : (m next : Message) (previous : ChunkHeader) → m.can_be_dropped ≡ true → format next (header m previous) ≡ Full
unfolding format
after_droppable m next previous e = rw (e, or-true, or-true)

-- a refusal leaves all as before
pub refusal_leaves : (s : ChunkSerializer) (m : Message) (payload output : List ℕ) (n : ℕ) → (serialized s m payload output).answer ≡ refused n
    → serialized s m payload output ≡ refuse s output n
unfolding serialized sent
refusal_leaves s m payload output n e =
    go (eqb (length payload) 0) (ltb max_length (length payload)) (ltb (length output) (length (packet_of s m payload))) e
  where
    outcome : Bool → Bool → Bool → Outcome
    outcome a b c = cond a (refuse s output 1) (cond b (refuse s output 2) (cond c (refuse s output 5) (accept s m payload s.max_chunk_size output)))

    go : (a b c : Bool) → (outcome a b c).answer ≡ refused n → outcome a b c ≡ refuse s output n
    go true b c h = let k : 1 ≡ n = cc in ap (refuse s output) k
    go false true c h = let k : 2 ≡ n = cc in ap (refuse s output) k
    go false false true h = let k : 5 ≡ n = cc in ap (refuse s output) k
    go false false false h = absurd (let z : ◌≡◌ {A = ℕ} 0 1 = cc in omega arith)

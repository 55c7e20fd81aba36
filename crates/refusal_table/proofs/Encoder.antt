-- The encoder's refusals: each is answered by a test of its own, in the order 1, 2, 5 or 3, 4, 5, and hands everything back.
use Rattle.std.proofs.Common.{◌≡◌, ℕ, ◌<◌, cond, eqb, ltb, ◌≢◌, ◌↔◌, List, [], ◌∷◌, length, refl, arith}
use Rattle.serializer.specs.declared.ChunkSerializer.{ChunkSerializer}
use Rattle.serializer.specs.declared.format.Message.{Message}
use Rattle.serializer.specs.Answer.{Answer, refused, wrote}
use Rattle.serializer.specs.Serialize.{Outcome, needed, refuse, sent, serialized, size_changed}
use Rattle.serializer.specs.Remembered.{packet_of}
use Rattle.chunk_header.specs.Limits.{max_length, max_size}
use Rattle.refusal_table.specs.Table.{size_packet}
use Rattle.refusal_table.specs.Terms.{OneOf}
use Rattle.fields.proofs.Tests.{equal, less}
use Rattle.refusal_table.proofs.Deciding.{Among, Gives, Three, alone, here, later, no_refusal, then_one, three}

-- an answer that is no refusal
written : (n k : ℕ) → wrote n ≢ refused k
written n k h = let z : ◌≡◌ {A = ℕ} 0 1 = cc in omega arith

-- a call that is refused, and "all as before"
abbrev Is : ℕ → Outcome → Type 0
Is k o = o.answer ≡ refused k

abbrev AsBefore : ChunkSerializer → List ℕ → Outcome → Type 0
AsBefore s output o = (o.serializer ≡ s) × (o.output ≡ output)

gives : (s : ChunkSerializer) (output : List ℕ) (n : ℕ) → Gives Is (AsBefore s output) n (refuse s output n)
gives s output n = record { is = refl; only = λ m h. cc; left = (refl, refl) }

-- a message: 1, 2, 5
pub message_rows : (s : ChunkSerializer) (m : Message) (payload output : List ℕ)
    → Three Is (AsBefore s output) 1 2 5 (serialized s m payload output) (length payload ≡ 0) (16777215 < length payload)
    (length output < length (packet_of s m payload))
unfolding serialized sent
message_rows s m payload output =
    three (gives s output 1) (gives s output 2) (gives s output 5) (written (length (packet_of s m payload))) refl refl refl refl refl (λ h e. omega arith)
    (equal (length payload) 0) (less max_length (length payload)) (less (length output) (length (packet_of s m payload)))

-- a size change: 3, 4, 5
pub size_rows : (s : ChunkSerializer) (size time : ℕ) (output : List ℕ)
    → Three Is (AsBefore s output) 3 4 5 (size_changed s size time output) (size ≡ 0) (2147483647 < size) (length output < length (size_packet s size time))
unfolding size_changed sent
size_rows s size time output =
    three (gives s output 3) (gives s output 4) (gives s output 5) (written (length (size_packet s size time))) refl refl refl refl refl (λ h e. omega arith)
    (equal size 0) (less max_size size) (less (length output) (length (size_packet s size time)))

-- a packet's length: 1, 2
abbrev IsLength : ℕ → Answer → Type 0
IsLength k a = a ≡ refused k

length_gives : (n : ℕ) → Gives IsLength (λ a. Unit {0}) n (refused n)
length_gives n = record { is = refl; only = λ m h. cc; left = tt }

module _ (s : ChunkSerializer) (m : Message) (payload : List ℕ) where
  long_only : Among IsLength (λ a. Unit {0}) (2 ∷ []) (cond (ltb max_length (length payload)) (refused 2) (wrote (length (packet_of s m payload))))
  long_only = then_one (ltb max_length (length payload)) (length_gives 2) (no_refusal (written (length (packet_of s m payload))))

  pub length_1 : needed s m payload ≡ refused 1 ↔ length payload ≡ 0
  unfolding needed
  length_1 = here (length_gives 1) (equal (length payload) 0) long_only refl

  pub length_2 : needed s m payload ≡ refused 2 ↔ 16777215 < length payload
  unfolding needed
  length_2 =
      alone (λ h e. omega arith)
      (later (length_gives 1) (equal (length payload) 0) refl
      (here (length_gives 2) (less max_length (length payload)) (no_refusal (written (length (packet_of s m payload)))) refl))

  pub length_no_other : (k : ℕ) → needed s m payload ≡ refused k → OneOf k (1 ∷ 2 ∷ [])
  unfolding needed
  length_no_other = (then_one (eqb (length payload) 0) (length_gives 1) long_only).no_other

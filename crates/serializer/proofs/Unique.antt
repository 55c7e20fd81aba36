-- The answer, the encoder and the output of a call decide what it hands back, since that can be told from them.
use Rattle.std.proofs.Common.{ℕ, ◌≡◌, refl, ap, cond, List, eqb, Result, Ok, Err}
use Rattle.fields.specs.Deciding.{Decides}
use Rattle.fields.proofs.Deciding.{told_decides}
use Rattle.serializer.specs.declared.error.PacketError.{PacketError}
use Rattle.serializer.specs.declared.error.PacketError.TheVariants.{NoPayload, MessageTooLong, ChunkSizeZero, InvalidMaxChunkSize, OutputTooShort}
use Rattle.serializer.specs.declared.Serialized.{Serialized}
use Rattle.serializer.specs.Answer.{Answer, wrote, refused, answer_of, number_of}
use Rattle.serializer.specs.Serialize.{Outcome, outcome_of}

-- the refusal of a number, and what an answer answers
abbrev error_of : ℕ → PacketError
error_of k = cond (eqb k 1) NoPayload (cond (eqb k 2) MessageTooLong (cond (eqb k 3) ChunkSizeZero (cond (eqb k 4) InvalidMaxChunkSize OutputTooShort)))

abbrev packet_of : Answer → Result ℕ PacketError
packet_of (wrote n) = Ok n
packet_of (refused k) = Err (error_of k)

error_back : (e : PacketError) → error_of (number_of e) ≡ e
error_back NoPayload = refl
error_back MessageTooLong = refl
error_back ChunkSizeZero = refl
error_back InvalidMaxChunkSize = refl
error_back OutputTooShort = refl

packet_back : (p : Result ℕ PacketError) → packet_of (answer_of p) ≡ p
packet_back (Ok n) = refl
packet_back (Err e) = ap Err (error_back e)

pub packet_decides : Decides answer_of
packet_decides = told_decides answer_of packet_of packet_back

-- what a call hands back, and the output after it
abbrev listed : Serialized × List ℕ → Outcome
listed r = outcome_of r.0 r.1

abbrev tell : Outcome → Serialized × List ℕ
tell o = (record { serializer = o.serializer; packet = packet_of o.answer }, o.output)

pub call_decides : Decides listed
call_decides = told_decides listed tell (λ r. ap (λ (p : Result ℕ PacketError). (record { serializer = r.0.serializer; packet = p }, r.1)) (packet_back r.0.packet))

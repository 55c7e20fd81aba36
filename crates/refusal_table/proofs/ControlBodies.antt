-- The refusals of protocol control bodies: reading asks first whether the body is short, writing first for the limits of its numbers.
use Rattle.std.proofs.Common.{◌≡◌, ℕ, ◌<◌, false, cond, ◌≢◌, ◌↔◌, List, [], ◌∷◌, length, refl, arith}
use Rattle.chunk_header.specs.Limits.{max_size}
use Rattle.fields.specs.Output.{over}
use Rattle.fields.specs.Writing.{lacks, outcome, writing, wrote, refused as not_written}
use Rattle.fields.proofs.Tests.{Decides, clash, equal, less, one_of}
use Rattle.protocol_control.specs.declared.Kind.{Kind}
use Rattle.protocol_control.specs.declared.Kind.TheVariants.{SetChunkSize as set_chunk_size, Abort as abort, Acknowledgement as acknowledgement, WindowAcknowledgement as window_acknowledgement, SetPeerBandwidth as set_peer_bandwidth}
use Rattle.protocol_control.specs.declared.ProtocolControl.{ProtocolControl}
use Rattle.protocol_control.specs.declared.ProtocolControl.TheVariants.{SetChunkSize, Abort, Acknowledgement, WindowAcknowledgement, SetPeerBandwidth}
use Rattle.protocol_control.specs.Answer.{Answer, listed, refused}
use Rattle.protocol_control.specs.Body.{body}
use Rattle.protocol_control.specs.Limits.{outside}
use Rattle.protocol_control.specs.Putting.{putting}
use Rattle.protocol_control.specs.Reading.{control_in, reading, short}
use Rattle.refusal_table.specs.Conditions.{OutsideLimits, ShortBody}
use Rattle.refusal_table.specs.Terms.{OneOf, Row, ◌unless◌}
use Rattle.refusal_table.proofs.Bodies.{IsWritten, write_gives, written}
use Rattle.refusal_table.proofs.Deciding.{Among, Gives, here, later, no_refusal, then_one}

-- the tests decide the table's conditions
never : Decides false ⊥
never = record { yes = λ e. clash refl e; no = λ e h. h }

outside_decides : (c : ProtocolControl) → Decides (outside c) (OutsideLimits c)
unfolding outside
outside_decides (SetChunkSize size) = one_of (equal size 0) (less max_size size)
outside_decides (Abort stream) = never
outside_decides (Acknowledgement sequence) = never
outside_decides (WindowAcknowledgement size) = never
outside_decides (SetPeerBandwidth size limit) = less 2 limit

short_decides : (kind : Kind) (bytes : List ℕ) → Decides (short kind bytes) (ShortBody kind bytes)
short_decides set_chunk_size bytes = less (length bytes) 4
short_decides abort bytes = less (length bytes) 4
short_decides acknowledgement bytes = less (length bytes) 4
short_decides window_acknowledgement bytes = less (length bytes) 4
short_decides set_peer_bandwidth bytes = less (length bytes) 5

-- an answer that is no refusal, and one that is
read : (c : ProtocolControl) (k : ℕ) → listed c ≢ refused k
read c k h = let z : ◌≡◌ {A = ℕ} 0 1 = cc in omega arith

abbrev Is : ℕ → Answer → Type 0
Is k a = a ≡ refused k

gives : (n : ℕ) → Gives Is (λ a. Unit {0}) n (refused n)
gives n = record { is = refl; only = λ m h. cc; left = tt }

module _ (kind : Kind) (bytes : List ℕ) where
  outside_only : Among Is (λ a. Unit {0}) (16 ∷ []) (cond (outside (control_in kind bytes)) (refused 16) (listed (control_in kind bytes)))
  outside_only = then_one (outside (control_in kind bytes)) (gives 16) (no_refusal (read (control_in kind bytes)))

  pub control_15 : reading kind bytes ≡ refused 15 ↔ ShortBody kind bytes
  unfolding reading
  control_15 = here (gives 15) (short_decides kind bytes) outside_only refl

  pub control_16 : reading kind bytes ≡ refused 16 ↔ (OutsideLimits (control_in kind bytes) unless ShortBody kind bytes)
  unfolding reading
  control_16 =
      later (gives 15) (short_decides kind bytes) refl
      (here (gives 16) (outside_decides (control_in kind bytes)) (no_refusal (read (control_in kind bytes))) refl)

  pub control_no_other : (k : ℕ) → reading kind bytes ≡ refused k → OneOf k (15 ∷ 16 ∷ [])
  unfolding reading
  control_no_other = (then_one (short kind bytes) (gives 15) outside_only).no_other

module _ (c : ProtocolControl) (output : List ℕ) where
  none_written : Among IsWritten (λ o. o.output ≡ output) [] (outcome (wrote (length (body c))) (over (body c) output))
  none_written = no_refusal (written (length (body c)))

  short_only : Among IsWritten (λ o. o.output ≡ output) (5 ∷ []) (writing (body c) output)
  unfolding writing
  short_only = then_one (lacks output (body c)) (write_gives 5 output) none_written

  put_among : Among IsWritten (λ o. o.output ≡ output) (16 ∷ 5 ∷ []) (putting c output)
  unfolding putting
  put_among = then_one (outside c) (write_gives 16 output) short_only

  pub put_16 : Row ((putting c output).answer ≡ not_written 16) (OutsideLimits c) ((putting c output).output ≡ output)
  unfolding putting
  put_16 = record {
    given = here (write_gives 16 output) (outside_decides c) short_only refl;
    leaves = put_among.left 16;
  }

  pub put_5 : Row ((putting c output).answer ≡ not_written 5) (length output < length (body c) unless OutsideLimits c) ((putting c output).output ≡ output)
  unfolding putting writing
  put_5 = record {
    given = later (write_gives 16 output) (outside_decides c) refl (here (write_gives 5 output) (less (length output) (length (body c))) none_written refl);
    leaves = put_among.left 5;
  }

  pub put_no_other : (k : ℕ) → (putting c output).answer ≡ not_written k → OneOf k (16 ∷ 5 ∷ [])
  put_no_other = put_among.no_other

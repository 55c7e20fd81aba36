-- Reading what was written gives the body's numbers back whatever follows it, and what reads as a body is what writing it gives: each
-- number by its own bytes.
use Rattle.std.proofs.Common.{◌≡◌, ℕ, ◌^◌, ◌<◌, ◌≤◌, Bool, true, false, cond, List, ◌++◌, length, get_or, take, drop, sym, refl, ap, ◌∙◌, append_assoc, arith, length-append, length-drop, take_at, take-add, drop_at, ltb-false}
use Rattle.fields.specs.Endian.{Bytes, big_endian}
use Rattle.fields.specs.Output.{over}
use Rattle.fields.specs.Writing.{Outcome, lacks, outcome, refuse, writing, wrote}
use Rattle.fields.specs.Writing.{refused as not_written}
use Rattle.fields.proofs.Endian.{length_big, number_big}
use Rattle.fields.proofs.Lists.{big_take, bytes_drop}
use Rattle.protocol_control.specs.declared.Kind.{Kind}
use Rattle.protocol_control.specs.declared.Kind.TheVariants.{SetChunkSize as set_chunk_size, Abort as abort, Acknowledgement as acknowledgement, WindowAcknowledgement as window_acknowledgement, SetPeerBandwidth as set_peer_bandwidth}
use Rattle.protocol_control.specs.declared.ProtocolControl.{ProtocolControl}
use Rattle.protocol_control.specs.declared.ProtocolControl.TheVariants.{SetChunkSize, Abort, Acknowledgement, WindowAcknowledgement, SetPeerBandwidth}
use Rattle.protocol_control.specs.Answer.{listed, refused}
use Rattle.protocol_control.specs.Body.{body, body_length, kind_of, numbers}
use Rattle.protocol_control.specs.Limits.{outside}
use Rattle.protocol_control.specs.Putting.{putting}
use Rattle.protocol_control.specs.Reading.{control_in, four, reading, short}
use Rattle.protocol_control.proofs.Lengths.{length_body}
use Rattle.protocol_control.proofs.Unique.{listed_decides}
use Rattle.protocol_control.proofs.Ways.{reads_control}

-- its numbers are of 32 bits
abbrev pub Fits : ProtocolControl → Type 0
Fits c = (i : ℕ) → get_or (numbers c) i 0 < 2 ^ 32

four_back : (n : ℕ) (rest : List ℕ) → n < 2 ^ 32 → four (big_endian 4 n ++ rest) ≡ n
four_back n rest h = rw (take_at (big_endian 4 n) rest 4 (length_big 4 n)) (number_big 4 n h)

-- the numbers of what was written; a limit type inside its limits fits its byte
said_back : (c : ProtocolControl) (rest : List ℕ) → Fits c → outside c ≡ false → control_in (kind_of c) (body c ++ rest) ≡ c
unfolding outside
said_back (SetChunkSize size) rest h o = ap SetChunkSize (four_back size rest (h 0))
said_back (Abort stream) rest h o = ap Abort (four_back stream rest (h 0))
said_back (Acknowledgement sequence) rest h o = ap Acknowledgement (four_back sequence rest (h 0))
said_back (WindowAcknowledgement size) rest h o = ap WindowAcknowledgement (four_back size rest (h 0))
said_back (SetPeerBandwidth size limit) rest h o =
    let most = ltb-false 2 limit o in
    let after = big_endian 1 limit ++ rest in
    rw (append_assoc, four_back size after (h 0), drop_at (big_endian 4 size) after 4 (length_big 4 size))
    (rw (take_at (big_endian 1 limit) rest 1 (length_big 1 limit), number_big 1 limit (omega arith)))

-- reading what was written
pub read_written : (c : ProtocolControl) (rest : List ℕ) → Fits c → outside c ≡ false → reading (kind_of c) (body c ++ rest) ≡ listed c
read_written c rest h o =
    let same = said_back c rest h o in
    let enough : body_length (kind_of c) ≤ length (body c ++ rest) = rw length-append (omega (arith, length_body c)) in
    reads_control (kind_of c) (body c ++ rest) enough (ap outside same ∙ o) ∙ ap listed same

never_wrote : (k n : ℕ) → not_written k ≡ wrote n → ⊥
never_wrote k n h = let z : ◌≡◌ {A = ℕ} 0 1 = cc in omega arith

-- .. and so of the output that writing left
pub read_put : (c : ProtocolControl) (output : List ℕ) (n : ℕ) (output' : List ℕ) → Fits c → putting c output ≡ outcome (wrote n) output'
    → reading (kind_of c) output' ≡ listed c
unfolding putting writing
read_put c output n output' f h = go (outside c) (lacks output (body c)) refl h
  where
    go : (b l : Bool) → outside c ≡ b
        → cond b (refuse 16 output) (cond l (refuse 5 output) (outcome (wrote (length (body c))) (over (body c) output))) ≡ outcome (wrote n) output'
        → reading (kind_of c) output' ≡ listed c
    go false false e h =
        let left : over (body c) output ≡ output' = ap (λ (o : Outcome). o.output) h in
        rw (← left) (read_written c (drop (length (body c)) output) f e)
    go false true e h = absurd (never_wrote 5 n (ap (λ (o : Outcome). o.answer) h))
    go true l e h = absurd (never_wrote 16 n (ap (λ (o : Outcome). o.answer) h))

-- the bytes of a body, as they are written again
again : (k : Kind) (bytes : List ℕ) → Bytes bytes → body_length k ≤ length bytes → take (body_length k) bytes ≡ body (control_in k bytes)
again set_chunk_size bytes B h = sym (big_take 4 bytes B h)
again abort bytes B h = sym (big_take 4 bytes B h)
again acknowledgement bytes B h = sym (big_take 4 bytes B h)
again window_acknowledgement bytes B h = sym (big_take 4 bytes B h)
again set_peer_bandwidth bytes B h =
    let more : 1 ≤ length (drop 4 bytes) = rw length-drop (omega arith) in
    rw (take-add 4 1 bytes, big_take 4 bytes B (omega arith), big_take 1 (drop 4 bytes) (bytes_drop 4 bytes B) more)

same_kind : (k : Kind) (bytes : List ℕ) → kind_of (control_in k bytes) ≡ k
same_kind set_chunk_size bytes = refl
same_kind abort bytes = refl
same_kind acknowledgement bytes = refl
same_kind window_acknowledgement bytes = refl
same_kind set_peer_bandwidth bytes = refl

-- what bytes are that read as a body
pub record Reads (k : Kind) (bytes : List ℕ) (c : ProtocolControl) : Type 0 where
  pub kind_is : kind_of c ≡ k
  pub inside : outside c ≡ false
  pub body_is : take (body_length k) bytes ≡ body c

-- what reads as a body is what writing it gives
pub written_read : (k : Kind) (bytes : List ℕ) (c : ProtocolControl) → Bytes bytes → reading k bytes ≡ listed c → Reads k bytes c
unfolding reading
written_read k bytes c B h = go (short k bytes) (outside (control_in k bytes)) refl refl h
  where
    go : (s o : Bool) → short k bytes ≡ s → outside (control_in k bytes) ≡ o
        → cond s (refused 15) (cond o (refused 16) (listed (control_in k bytes))) ≡ listed c → Reads k bytes c
    go false false p q e =
        let said : control_in k bytes ≡ c = listed_decides (control_in k bytes) c e in
        record {
          kind_is = ap kind_of (sym said) ∙ same_kind k bytes;
          inside = ap outside (sym said) ∙ q;
          body_is = again k bytes B (ltb-false (length bytes) (body_length k) p) ∙ ap body said;
        }
    go true o p q e = absurd (let z : ◌≡◌ {A = ℕ} 0 1 = cc in omega arith)
    go false true p q e = absurd (let z : ◌≡◌ {A = ℕ} 0 1 = cc in omega arith)

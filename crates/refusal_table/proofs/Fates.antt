-- What becomes of a chunk that comes to a decoder between chunks: it is refused at the end of a part of it, or it is not and its bytes are used.
use Rattle.std.proofs.Common.{◌≡◌, ℕ, ◌+◌, Bool, true, false, eqb, ◌≢◌, List, [], ◌++◌, length, sym, refl, ap, ◌∙◌, append_assoc, arith, length-append, eqb-true}
use borrow.Author.Tests.{eqb-false}
use Rattle.chunk_header.specs.Layout.{Chunk, chunk_bytes, extended_bytes, header_bytes}
use Rattle.decoding.specs.Decoder.{Decoder}
use Rattle.byte_machine.specs.Reader.{Csid}
use Rattle.decoding.specs.Answer.{refused}
use Rattle.decoding.specs.Call.{Outcome, run}
use Rattle.decoding.specs.Chunk.{ChunkFits, HeadFits, basic_refused, header_refused}
use Rattle.decoding.proofs.Accepts.{refuses_basic, refuses_header}
use Rattle.decoding.proofs.Cut.{refused_not_more}
use Rattle.decoding.proofs.Reached.{Reached}
use Rattle.decoding.proofs.Standing.{refused_not_message}
use Rattle.decoding.proofs.Taken.{Takes, goes, goes_on, hands_out, parts}
use Rattle.refusal_table.specs.Conditions.{basic, head}
use Rattle.refusal_table.proofs.Settling.{At, by_basic, by_head}

-- a chunk that is refused is answered at the end of that part of it
pub refused_at : {d : Decoder} {c : Chunk} {k : ℕ} {p : List ℕ} → Reached d → d.reader.stage ≡ Csid → HeadFits d c → k ≢ 0 → At d c k p
    → (payload : List ℕ) (n : ℕ) (rest : List ℕ)
    → (run (p ++ rest) d payload n).answer ≡ refused k (n + length p)
refused_at {d} {c} reached s fits nz (by_basic e) payload n rest =
    (refuses_basic d c payload n rest s fits.form (λ z. nz (sym e ∙ z))).answer ∙ ap (λ (j : ℕ). refused j (n + length (basic c))) e
refused_at {d} {c} {k} reached s fits nz (by_head z e) payload n rest =
    let a : head c ++ rest ≡ basic c ++ (header_bytes c.header ++ (extended_bytes c.extended ++ rest)) = simp append_assoc in
    let l : n + length (basic c) + length (header_bytes c.header) + length (extended_bytes c.extended) ≡ n + length (head c) = simp length-append (omega arith) in
    ap (λ (x : List ℕ). (run x d payload n).answer) a
    ∙ (refuses_header d c reached z payload n rest s fits (λ y. nz (sym e ∙ y))).answer
    ∙ (rw (e, l))

-- the bytes of a chunk, of which a part may settle it
pub head_first : (c : Chunk) → chunk_bytes c ≡ head c ++ c.payload
head_first c = parts c ∙ simp append_assoc

pub data Fate (d : Decoder) (c : Chunk) : Type 0 where
  is_refused : (k : ℕ) (p r : List ℕ) → k ≢ 0 → At d c k p → chunk_bytes c ≡ p ++ r → Fate d c
  is_taken : Takes d c → Fate d c

-- a chunk that is taken is not refused
pub not_refused : {d : Decoder} {c : Chunk} → Takes d c → (payload : List ℕ) (n k m : ℕ) → (run (chunk_bytes c ++ []) d payload n).answer ≢ refused k m
unfolding run
not_refused {d} {c} t payload n k m e = by_rest (goes d c) refl
  where
    by_rest : (u : Bool) → goes d c ≡ u → ⊥
    by_rest true q = refused_not_more (sym e ∙ ap (λ (o : Outcome). o.answer) (goes_on t q payload n []))
    by_rest false q = refused_not_message (sym e ∙ ap (λ (o : Outcome). o.answer) (hands_out t q payload n []))

pub fate : (d : Decoder) (c : Chunk) → Reached d → d.reader.stage ≡ Csid → ChunkFits d c → Fate d c
fate d c reached stage fits = by_tests (eqb (basic_refused d c) 0) (eqb (header_refused d c) 0) refl refl
  where
    by_tests : (t u : Bool) → eqb (basic_refused d c) 0 ≡ t → eqb (header_refused d c) 0 ≡ u → Fate d c
    by_tests false u e f = is_refused (basic_refused d c) (basic c) _ (eqb-false _ 0 e) (by_basic refl) (parts c)
    by_tests true false e f = is_refused (header_refused d c) (head c) _ (eqb-false _ 0 f) (by_head (eqb-true _ 0 e) refl) (head_first c)
    by_tests true true e f =
        is_taken (record { reached = reached; between = stage; fits = fits; basic = eqb-true _ 0 e; head = eqb-true _ 0 f })

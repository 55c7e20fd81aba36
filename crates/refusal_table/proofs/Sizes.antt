-- Making a decoder and telling it a size: 6, and 3, 4, 8 of an open decoder, which stands between messages where neither a part of a chunk nor of a message has come.
use Rattle.std.proofs.Common.{◌≡◌, ℕ, ◌<◌, true, false, not, ◌≢◌, ◌⊎◌, List, [], ◌∷◌, length, sym, refl, ap, ◌∙◌, inl, inr, ⊎_elim, arith, eq-eqb, ne_eqb}
use Rattle.decoding.specs.Decoder.{Decoder}
use Rattle.decoding.specs.Told.{Outcome, between, fresh, made, outcome, refused, taken, told}
use Rattle.chunk_header.specs.Limits.{max_size}
use Rattle.byte_machine.specs.Reader.{at_start}
use Rattle.decoding.specs.Call.{Outcome as Called, outcome as called, run}
use Rattle.decoding.specs.Answer.{more}
use Rattle.decoding.proofs.Entries.{made_by}
use Rattle.decoding.proofs.Reached.{made_reaches}
use Rattle.decoding.proofs.Runs.{next_runs}
use Rattle.decoding.proofs.Standing.{run_stood}
use Rattle.fields.proofs.Tests.{Decides, clash, equal, in_words, less}
use Rattle.stream_meaning.specs.Feeding.{Sign}
use Rattle.stream_meaning.specs.Stream.{Message}
use Rattle.stream_meaning.proofs.Walking.{Amid}
use Rattle.refusal_table.specs.Conditions.{Eight}
use Rattle.refusal_table.specs.History.{Open, Read}
use Rattle.refusal_table.specs.Table.{New}
use Rattle.refusal_table.specs.Terms.{OneOf, Row}
use Rattle.refusal_table.proofs.Deciding.{Gives, Three, three}
use Rattle.refusal_table.proofs.Opened.{Stands, amid_of, only_reading, open_amid, read_of, stands_of}
use Rattle.refusal_table.proofs.Seen.{inside}

-- an answer that is no refusal
was_taken : (k : ℕ) → taken ≢ refused k
was_taken k h = let z : ◌≡◌ {A = ℕ} 0 1 = cc in omega arith

-- a decoder that is made
pub new_6 : New 6 (λ room. (room ≡ 0) ⊎ (16777215 < room))
new_6 room =
    made_by room (λ (o : Outcome). Row (o.answer ≡ refused 6) ((room ≡ 0) ⊎ (16777215 < room)) (o.deserializer ≡ fresh room 6))
    (λ bad. record { given = (λ h. bad, λ h. refl); leaves = λ h. refl })
    (λ good. record { given = (λ h. absurd (was_taken 6 h), λ bad. absurd (good bad)); leaves = λ h. absurd (was_taken 6 h) })

pub new_no_other : (room k : ℕ) → (made room).answer ≡ refused k → OneOf k (6 ∷ [])
new_no_other room k = made_by room (λ (o : Outcome). o.answer ≡ refused k → OneOf k (6 ∷ [])) (λ bad h. inl (cc)) (λ good h. absurd (was_taken k h))

-- a size that is told to a closed decoder
pub told_closed : (d : Decoder) → d.closed ≢ 0 → (size : ℕ) → told d size ≡ outcome (refused d.closed) d
unfolding told
told_closed d n size = rw (ne_eqb d.closed 0 n)

-- and to an open one
abbrev pub Is : ℕ → Outcome → Type 0
Is k o = o.answer ≡ refused k

abbrev pub AsBefore : Decoder → Outcome → Type 0
AsBefore d o = o.deserializer ≡ d

gives : (d : Decoder) (n : ℕ) → Gives Is (AsBefore d) n (outcome (refused n) d)
gives d n = record { is = refl; only = λ m h. cc; left = refl }

-- "after the first byte of a message and before its end"
amid_eight : {came : List Sign} {messages : List Message} {d : Decoder} {buffer : List ℕ} (a : Amid came messages d buffer)
    → Decides (not (between d.reader)) (Eight a.at_start_lem.items a.part_of)
unfolding run
amid_eight {d = d} {buffer = buffer} a = by_part a.part_of runs
  where
    runs : run a.part_of a.decoder a.held 0 ≡ called (more (length a.part_of)) d buffer
    runs = let r = a.at_start_lem.ready in sym (next_runs a.decoder a.part_of a.held r.open_still r.long) ∙ a.reads

    by_part : (p : List ℕ) → run p a.decoder a.held 0 ≡ called (more (length p)) d buffer → Decides (not (between d.reader)) (Eight a.at_start_lem.items p)
    by_part [] e =
        let same : a.decoder ≡ d = ap (λ (o : Called). o.deserializer) e in
        let at_start_lem : at_start a.decoder.reader.stage ≡ true = rw a.at_start_lem.ready.between_chunks in
        rw (← same, at_start_lem) (in_words (inr, ⊎_elim (λ h. absurd (omega arith)) (λ i. i)) (inside a.at_start_lem))
    by_part (x ∷ p) e =
        let s = run_stood (x ∷ p) a.decoder a.held 0 (made_reaches a.at_start_lem.ready.by_calls) in
        let z : between d.reader ≡ false =
        ap (λ (o : Called). between o.deserializer.reader) (sym e) ∙ s.wanted (length (x ∷ p)) (ap (λ (o : Called). o.answer) e) (λ n. absurd (omega arith))
        in
        rw z (record { yes = λ q. inl (omega arith); no = λ q. clash q refl })

read_eight : {came : List Sign} {d : Decoder} (s : Stands came d) → Decides (not (between d.reader)) ((r : Read came) × Eight r.items r.part)
read_eight {came} s = in_words (λ h. (read_of s, h), from) (amid_eight (amid_of s))
  where
    from : (r : Read came) × Eight r.items r.part → Eight (amid_of s).at_start_lem.items (amid_of s).part_of
    from h = let e = only_reading s h.0 in rw (e.0, e.1) h.1

pub told_rows : (came : List Sign) (d : Decoder) → Open came d → (size : ℕ)
    → Three Is (AsBefore d) 3 4 8 (told d size) (size ≡ 0) (2147483647 < size) ((r : Read came) × Eight r.items r.part)
unfolding told
told_rows came d o size =
    let s = stands_of o in
    rw (eq-eqb d.closed 0 (open_amid (amid_of s)).0)
    (three (gives d 3) (gives d 4) (gives d 8) was_taken refl refl refl refl refl (λ h e. omega arith)
    (equal size 0) (less max_size size) (read_eight s))

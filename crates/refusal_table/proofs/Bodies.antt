-- The refusals of user control bodies: the code is one of nine, and each of them says how many bytes it needs.
use Rattle.std.proofs.Common.{◌≡◌, ℕ, ◌<◌, Bool, true, false, cond, not, ◌&&◌, eqb, ltb, ◌≢◌, ◌⊎◌, ◌↔◌, List, [], ◌∷◌, length, drop, refl, inl, inr, ⊎_elim, arith, eqb-true}
use borrow.Author.Tests.{eqb-false}
use Rattle.fields.specs.Output.{over}
use Rattle.fields.specs.Writing.{Outcome, lacks, outcome, refuse, writing, wrote, refused as not_written}
use Rattle.user_control.specs.declared.UserControlEvent.{UserControlEvent}
use Rattle.user_control.specs.Answer.{Answer, event, refused}
use Rattle.user_control.specs.Body.{body}
use Rattle.user_control.specs.Reading.{body_length, code_in, count, known, numbers_in, reading, short}
use Rattle.refusal_table.specs.Conditions.{Fifteen, Sixteen}
use Rattle.refusal_table.specs.Terms.{OneOf, Row, ◌unless◌}
use Rattle.fields.proofs.Tests.{Decides, both, in_words, less, not_decides, one_of}
use Rattle.refusal_table.proofs.Deciding.{Among, Gives, here, later, listed, no_refusal, then_one}

-- an answer that is no refusal, and one that is
read : (c : ℕ) (ns : List ℕ) (k : ℕ) → event c ns ≢ refused k
read c ns k h = let z : ◌≡◌ {A = ℕ} 0 1 = cc in omega arith

abbrev Is : ℕ → Answer → Type 0
Is k a = a ≡ refused k

gives : (n : ℕ) → Gives Is (λ a. Unit {0}) n (refused n)
gives n = record { is = refl; only = λ m h. cc; left = tt }

-- the codes that need 6 bytes
abbrev but_3 : List ℕ
but_3 = 0 ∷ 1 ∷ 2 ∷ 4 ∷ 6 ∷ 7 ∷ 31 ∷ 32 ∷ []

-- a known code
known_code : (c : ℕ) → Decides (known c) (OneOf c (0 ∷ 1 ∷ 2 ∷ 3 ∷ 4 ∷ 6 ∷ 7 ∷ 31 ∷ 32 ∷ []))
unfolding known
known_code c = listed c (0 ∷ 1 ∷ 2 ∷ 3 ∷ 4 ∷ 6 ∷ 7 ∷ 31 ∷ 32 ∷ [])

-- fewer bytes than it needs: 10 for code 3, and 6 for each other
fewer : (c n : ℕ) → Decides (known c && ltb n (body_length c)) ((OneOf c but_3 × (n < 6)) ⊎ ((c ≡ 3) × (n < 10)))
unfolding known count
fewer c n = by_code (eqb c 3) refl
  where
    by_code : (t : Bool) → eqb c 3 ≡ t
        → Decides (known c && ltb n (body_length c)) ((OneOf c but_3 × (n < 6)) ⊎ ((c ≡ 3) × (n < 10)))
    by_code true e =
        rw (eqb-true c 3 e)
        (in_words (λ h. inr (refl, h), ⊎_elim (λ h. absurd ((listed 3 but_3).no refl h.0)) (λ h. h.1)) (less n 10))
    by_code false e =
        rw e
        (in_words (λ h. inl h, ⊎_elim (λ h. h) (λ h. absurd (eqb-false c 3 e h.0))) (both (listed c but_3) (less n 6)))

module _ (bytes : List ℕ) where
  too_short : Decides (short bytes) (Fifteen bytes)
  too_short = one_of (less (length bytes) 2) (fewer (code_in bytes) (length bytes))

  unknown_only : Among Is (λ a. Unit {0}) (16 ∷ []) (cond (not (known (code_in bytes))) (refused 16) (event (code_in bytes) (numbers_in (count (code_in bytes)) (drop 2 bytes))))
  unknown_only = then_one (not (known (code_in bytes))) (gives 16) (no_refusal (read (code_in bytes) _))

  pub body_15 : reading bytes ≡ refused 15 ↔ Fifteen bytes
  unfolding reading
  body_15 = here (gives 15) too_short unknown_only refl

  pub body_16 : reading bytes ≡ refused 16 ↔ (Sixteen bytes unless Fifteen bytes)
  unfolding reading
  body_16 = later (gives 15) too_short refl (here (gives 16) (not_decides (known_code (code_in bytes))) (no_refusal (read (code_in bytes) _)) refl)

  pub body_no_other : (k : ℕ) → reading bytes ≡ refused k → OneOf k (15 ∷ 16 ∷ [])
  unfolding reading
  body_no_other = (then_one (short bytes) (gives 15) unknown_only).no_other

-- what is written: a number, and the output as before
abbrev pub IsWritten : ℕ → Outcome → Type 0
IsWritten k o = o.answer ≡ not_written k

pub write_gives : (n : ℕ) (output : List ℕ) → Gives IsWritten (λ o. o.output ≡ output) n (refuse n output)
write_gives n output = record { is = refl; only = λ m h. cc; left = refl }

pub written : (n k : ℕ) → wrote n ≢ not_written k
written n k h = let z : ◌≡◌ {A = ℕ} 0 1 = cc in omega arith

module _ (e : UserControlEvent) (output : List ℕ) where
  none_written : Among IsWritten (λ o. o.output ≡ output) [] (outcome (wrote (length (body e))) (over (body e) output))
  none_written = no_refusal (written (length (body e)))

  write_among : Among IsWritten (λ o. o.output ≡ output) (5 ∷ []) (writing (body e) output)
  unfolding writing
  write_among = then_one (lacks output (body e)) (write_gives 5 output) none_written

  pub write_5 : Row ((writing (body e) output).answer ≡ not_written 5) (length output < length (body e)) ((writing (body e) output).output ≡ output)
  unfolding writing
  write_5 = record {
    given = here (write_gives 5 output) (less (length output) (length (body e))) none_written refl;
    leaves = write_among.left 5;
  }

  pub write_no_other : (k : ℕ) → (writing (body e) output).answer ≡ not_written k → OneOf k (5 ∷ [])
  write_no_other = write_among.no_other

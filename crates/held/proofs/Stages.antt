-- Stages by their numbers. Each law is true by cases of the number, at 0 to 7 and over: that is all that `stage_from` asks of it.
use Rattle.std.proofs.Common.{◌≡◌, ◌≢◌, refl, ℕ, zero, suc, ◌%◌, ◌≤◌, ◌<◌, Bool, true, false, leb, leb-true, leb-false, ne_eqb, arith}
use Rattle.byte_machine.specs.Reader.{Csid, CsidSecond, CsidThird, InitialTimestamp, MessageLength, MessageTypeId, MessageStreamId, ExtendedTimestamp, MessagePayload, in_payload}
use Rattle.held.specs.Stages.{code_of, lacks_of, number_of, stage_from, stage_in}

module _ (s n l : ℕ) where
  pub is_csid : s ≡ 0 → stage_from s n l ≡ Csid
  unfolding stage_in
  is_csid e = rw e

  pub is_second : s ≡ 1 → stage_from s n l ≡ CsidSecond n
  unfolding stage_in
  is_second e = rw e

  pub is_third : s ≡ 2 → stage_from s n l ≡ CsidThird n (l % 256)
  unfolding stage_in
  is_third e = rw e

  pub is_timestamp : s ≡ 3 → stage_from s n l ≡ InitialTimestamp n l
  unfolding stage_in
  is_timestamp e = rw e

  pub is_length : s ≡ 4 → stage_from s n l ≡ MessageLength n l
  unfolding stage_in
  is_length e = rw e

  pub is_type : s ≡ 5 → stage_from s n l ≡ MessageTypeId
  unfolding stage_in
  is_type e = rw e

  pub is_stream : s ≡ 6 → stage_from s n l ≡ MessageStreamId n l
  unfolding stage_in
  is_stream e = rw e

  pub is_extended : s ≡ 7 → stage_from s n l ≡ ExtendedTimestamp n l
  unfolding stage_in
  is_extended e = rw e

  pub is_payload_lem : 8 ≤ s → stage_from s n l ≡ MessagePayload
  unfolding stage_in
  is_payload_lem h = rw (ne_eqb s 0 (omega (arith, h)), ne_eqb s 1 (omega (arith, h)), ne_eqb s 2 (omega (arith, h)), ne_eqb s 3 (omega (arith, h)), ne_eqb s 4 (omega (arith, h)), ne_eqb s 5 (omega (arith, h)), ne_eqb s 6 (omega (arith, h)), ne_eqb s 7 (omega (arith, h)))

-- the way there and back
pub code_again : (s n l : ℕ) → s < 8 → code_of (stage_from s n l) ≡ s
unfolding stage_in
code_again zero n l h = refl
code_again (suc zero) n l h = refl
code_again (suc (suc zero)) n l h = refl
code_again (suc (suc (suc zero))) n l h = refl
code_again (suc (suc (suc (suc zero)))) n l h = refl
code_again (suc (suc (suc (suc (suc zero))))) n l h = refl
code_again (suc (suc (suc (suc (suc (suc zero)))))) n l h = refl
code_again (suc (suc (suc (suc (suc (suc (suc zero))))))) n l h = refl
code_again (suc (suc (suc (suc (suc (suc (suc (suc s)))))))) n l h = absurd (omega (arith, h))

pub number_again : (s n l : ℕ) → s ≢ 0 → s ≢ 5 → s ≤ 7 → number_of (stage_from s n l) ≡ n
unfolding stage_in
number_again zero n l a b h = absurd (a refl)
number_again (suc zero) n l a b h = refl
number_again (suc (suc zero)) n l a b h = refl
number_again (suc (suc (suc zero))) n l a b h = refl
number_again (suc (suc (suc (suc zero)))) n l a b h = refl
number_again (suc (suc (suc (suc (suc zero))))) n l a b h = absurd (b refl)
number_again (suc (suc (suc (suc (suc (suc zero)))))) n l a b h = refl
number_again (suc (suc (suc (suc (suc (suc (suc zero))))))) n l a b h = refl
number_again (suc (suc (suc (suc (suc (suc (suc (suc s)))))))) n l a b h = absurd (omega (arith, h))

pub lacks_none : (s n l : ℕ) → s < 2 → lacks_of (stage_from s n l) ≡ 0
unfolding stage_in
lacks_none zero n l h = refl
lacks_none (suc zero) n l h = refl
lacks_none (suc (suc s)) n l h = absurd (omega (arith, h))

pub lacks_again : (s n l : ℕ) → 2 < s → s ≢ 5 → s ≤ 7 → lacks_of (stage_from s n l) ≡ l
unfolding stage_in
lacks_again zero n l a b h = absurd (omega (arith, a))
lacks_again (suc zero) n l a b h = absurd (omega (arith, a))
lacks_again (suc (suc zero)) n l a b h = absurd (omega (arith, a))
lacks_again (suc (suc (suc zero))) n l a b h = refl
lacks_again (suc (suc (suc (suc zero)))) n l a b h = refl
lacks_again (suc (suc (suc (suc (suc zero))))) n l a b h = absurd (b refl)
lacks_again (suc (suc (suc (suc (suc (suc zero)))))) n l a b h = refl
lacks_again (suc (suc (suc (suc (suc (suc (suc zero))))))) n l a b h = refl
lacks_again (suc (suc (suc (suc (suc (suc (suc (suc s)))))))) n l a b h = absurd (omega (arith, h))

pub not_payload : (s n l : ℕ) → s < 8 → in_payload (stage_from s n l) ≡ false
unfolding stage_in
not_payload zero n l h = refl
not_payload (suc zero) n l h = refl
not_payload (suc (suc zero)) n l h = refl
not_payload (suc (suc (suc zero))) n l h = refl
not_payload (suc (suc (suc (suc zero)))) n l h = refl
not_payload (suc (suc (suc (suc (suc zero))))) n l h = refl
not_payload (suc (suc (suc (suc (suc (suc zero)))))) n l h = refl
not_payload (suc (suc (suc (suc (suc (suc (suc zero))))))) n l h = refl
not_payload (suc (suc (suc (suc (suc (suc (suc (suc s)))))))) n l h = absurd (omega (arith, h))

-- and so in a payload by one test
pub payload_from : (s n l : ℕ) → in_payload (stage_from s n l) ≡ leb 8 s
payload_from s n l = by_test (leb 8 s) refl
  where
    by_test : (t : Bool) → leb 8 s ≡ t → in_payload (stage_from s n l) ≡ t
    by_test true e = rw (is_payload_lem s n l (leb-true 8 s e))
    by_test false e = not_payload s n l (leb-false 8 s e)

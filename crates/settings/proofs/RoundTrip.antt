-- Reading what was written gives the settings back whatever follows, and what reads as settings is what writing them gives.
use Rattle.std.proofs.Common.{◌≡◌, ℕ, suc, ◌+◌, ◌≤◌, Bool, true, false, cond, not, eqb, ltb, List, ◌∷◌, ◌++◌, length, take, drop, sym, refl, ap, ◌∙◌, append_assoc, arith, length-append, length-drop, drop-cons, take_at, take-add, ltb-false, le-ltb, ne_eqb, eqb-true}
use mathlib.Core.Bool.{and-eq-true_iff}
use borrow.Author.Tests.{not-true}
use Rattle.fields.specs.Endian.{Bytes, big_endian}
use Rattle.fields.specs.Output.{over}
use Rattle.fields.specs.Writing.{Outcome, lacks, outcome, refuse, writing, wrote}
use Rattle.fields.specs.Writing.{refused as not_written}
use Rattle.fields.proofs.Endian.{length_big, number_big}
use Rattle.fields.proofs.Lists.{big_take, bytes_drop}
use Rattle.fields.proofs.Tests.{neither}
use Rattle.settings.specs.declared.Settings.{Settings}
use Rattle.settings.specs.Answer.{settings, refused, refused_version}
use Rattle.settings.specs.Limits.{fit, holds, outside}
use Rattle.settings.specs.Reading.{known, length_in, reading, settings_in, settings_of, short, version_in}
use Rattle.settings.specs.Record.{body_length, laid, numbers, record_of, total, widths}
use Rattle.settings.specs.Storing.{storing}
use Rattle.settings.proofs.Laid.{fit_numbers, laid_numbers, numbers_laid}
use Rattle.settings.proofs.Record.{kind_most, length_record}
use Rattle.settings.proofs.Ways.{reads_settings}

-- the parts of a record with bytes after it
module _ (v : ℕ) (s : Settings) (rest : List ℕ) where
  pub version_written : version_in (record_of v s ++ rest) ≡ v
  unfolding record_of big_endian
  version_written = refl

  pub length_written : length_in (record_of v s ++ rest) ≡ body_length v
  unfolding record_of
  length_written =
      let most = kind_most v in
      let after = (v ∷ laid (widths v) (numbers s)) ++ rest in
      rw (append_assoc, take_at (big_endian 2 (body_length v)) after 2 (length_big 2 (body_length v))) (number_big 2 (body_length v) (omega arith))

  pub settings_written : fit (widths v) (numbers s) ≡ true → settings_in v (record_of v s ++ rest) ≡ s
  unfolding record_of settings_in big_endian
  settings_written h = ap settings_of (numbers_laid (widths v) (numbers s) rest refl h)

  pub whole_written : short (record_of v s ++ rest) ≡ false
  whole_written =
      let size = length_record v s in
      let all : length (record_of v s ++ rest) ≡ body_length v + 2 + length rest = rw (length-append, size) in
      rw (length_written, all, le-ltb (body_length v + 2 + length rest) 3 (omega arith), ne_eqb (body_length v) 0 (omega arith), le-ltb (body_length v + 2 + length rest) (body_length v + 2) (omega arith))

-- reading what was written, by any reader that knows the version
pub read_written : (newest version : ℕ) (s : Settings) (rest : List ℕ) → known newest version ≡ true → holds version s ≡ true
    → reading newest (record_of version s ++ rest) ≡ settings s (length (record_of version s))
unfolding holds
read_written newest v s rest k h =
    let both = (and-eq-true_iff (not (outside s)) (fit (widths v) (numbers s))).0 h in
    let bytes = record_of v s ++ rest in
    let version = version_written v s rest in
    let same : settings_in (version_in bytes) bytes ≡ s = rw version (settings_written v s rest both.1) in
    let inside : outside (settings_in (version_in bytes) bytes) ≡ false = rw same (not-true (outside s) both.0) in
    let length = length_written v s rest in
    reads_settings newest bytes (whole_written v s rest) (rw version k) (rw version length) inside
    ∙ rw (same, length, length_record v s)

never_wrote : (k n : ℕ) → not_written k ≡ wrote n → ⊥
never_wrote k n h = let z : ◌≡◌ {A = ℕ} 0 1 = cc in omega arith

-- .. and so of the output that writing left
pub read_stored : (newest version : ℕ) (s : Settings) (output : List ℕ) (n : ℕ) (output' : List ℕ) → known newest version ≡ true
    → storing version s output ≡ outcome (wrote n) output' → reading newest output' ≡ settings s n
unfolding storing writing
read_stored newest v s output n output' k h = go (holds v s) (lacks output (record_of v s)) refl h
  where
    go : (b l : Bool) → holds v s ≡ b
        → cond (not b) (refuse 28 output) (cond l (refuse 5 output) (outcome (wrote (length (record_of v s))) (over (record_of v s) output))) ≡ outcome (wrote n) output'
        → reading newest output' ≡ settings s n
    go true false e h =
        let left : over (record_of v s) output ≡ output' = ap (λ (o : Outcome). o.output) h in
        let answer : wrote (length (record_of v s)) ≡ wrote n = ap (λ (o : Outcome). o.answer) h in
        let count : length (record_of v s) ≡ n = cc in
        rw (← left, ← count) (read_written newest v s (drop (length (record_of v s)) output) k e)
    go true true e h = absurd (never_wrote 5 n (ap (λ (o : Outcome). o.answer) h))
    go false l e h = absurd (never_wrote 28 n (ap (λ (o : Outcome). o.answer) h))

-- what bytes are that read as settings
pub record Reads (newest : ℕ) (bytes : List ℕ) (s : Settings) (used : ℕ) : Type 0 where
  -- a version that the reader knows, and that can hold them
  pub knows : known newest (version_in bytes) ≡ true
  pub held : holds (version_in bytes) s ≡ true
  -- the record of that version
  pub record_is : take used bytes ≡ record_of (version_in bytes) s
  pub used_is : used ≡ length (record_of (version_in bytes) s)

-- the tests that lead there
record Passed (newest : ℕ) (bytes : List ℕ) (s : Settings) (used : ℕ) : Type 0 where
  whole : short bytes ≡ false
  knows : known newest (version_in bytes) ≡ true
  exact : length_in bytes ≡ body_length (version_in bytes)
  inside : outside (settings_in (version_in bytes) bytes) ≡ false
  said : settings_in (version_in bytes) bytes ≡ s
  count : length_in bytes + 2 ≡ used

passed : (newest : ℕ) (bytes : List ℕ) (s : Settings) (used : ℕ) → reading newest bytes ≡ settings s used → Passed newest bytes s used
unfolding reading
passed newest bytes s used h =
    go (short bytes) (known newest (version_in bytes)) (eqb (length_in bytes) (body_length (version_in bytes))) (outside (settings_in (version_in bytes) bytes)) refl refl refl refl h
  where
    go : (a k l o : Bool) → short bytes ≡ a → known newest (version_in bytes) ≡ k → eqb (length_in bytes) (body_length (version_in bytes)) ≡ l
        → outside (settings_in (version_in bytes) bytes) ≡ o
        → cond a (refused 25) (cond (not k) (refused_version 26 (version_in bytes)) (cond (not l) (refused 27) (cond o (refused 28) (settings (settings_in (version_in bytes) bytes) (length_in bytes + 2))))) ≡ settings s used
        → Passed newest bytes s used
    go false true true false p q r t e =
        record { whole = p; knows = q; exact = eqb-true (length_in bytes) (body_length (version_in bytes)) r; inside = t; said = cc; count = cc }
    go true k l o p q r t e = absurd (let z : ◌≡◌ {A = ℕ} 0 1 = cc in omega arith)
    go false false l o p q r t e = absurd (let z : ◌≡◌ {A = ℕ} 0 1 = cc in omega arith)
    go false true false o p q r t e = absurd (let z : ◌≡◌ {A = ℕ} 0 1 = cc in omega arith)
    go false true true true p q r t e = absurd (let z : ◌≡◌ {A = ℕ} 0 1 = cc in omega arith)

-- the bytes of a record whose length is its version's, as they are written again
record_again : (bytes : List ℕ) → Bytes bytes → length_in bytes ≡ body_length (version_in bytes) → length_in bytes + 2 ≤ length bytes
    → take (length_in bytes + 2) bytes ≡ record_of (version_in bytes) (settings_in (version_in bytes) bytes)
unfolding record_of settings_in
record_again bytes B e enough =
    let v = version_in bytes in
    let fields = total (widths v) in
    let split : length_in bytes + 2 ≡ 2 + suc fields = omega arith in
    let more : fields ≤ length (drop 3 bytes) = rw length-drop (omega arith) in
    let head : take 2 bytes ≡ big_endian 2 (body_length v) = sym (big_take 2 bytes B (omega arith)) ∙ ap (big_endian 2) e in
    let tail : drop 2 bytes ≡ v ∷ drop 3 bytes = drop-cons bytes 2 0 (omega arith) in
    rw (split, take-add 2 (suc fields) bytes, head, tail, laid_numbers (widths v) (drop 3 bytes) (bytes_drop 3 bytes B) more)

-- what reads as settings is what writing them gives
pub written_read : (newest : ℕ) (bytes : List ℕ) (s : Settings) (used : ℕ) → Bytes bytes → reading newest bytes ≡ settings s used
    → Reads newest bytes s used
unfolding holds settings_in
written_read newest bytes s used B h =
    let p = passed newest bytes s used h in
    let v = version_in bytes in
    let n = neither (ltb (length bytes) 3) _ p.whole in
    let enough = ltb-false (length bytes) (length_in bytes + 2) (neither (eqb (length_in bytes) 0) _ n.1).1 in
    record {
      knows = p.knows;
      held = rw (← p.said, p.inside) (fit_numbers (widths v) (drop 3 bytes) (bytes_drop 3 bytes B));
      record_is = rw (← p.count, ← p.said) (record_again bytes B p.exact enough);
      used_is = sym p.count ∙ ap (λ (n : ℕ). n + 2) p.exact ∙ sym (length_record v s);
    }

-- so settings have one record in each version that can hold them
pub one_record : (r₁ r₂ : ℕ) (a b : List ℕ) (s : Settings) (m n : ℕ) → Bytes a → Bytes b → version_in a ≡ version_in b
    → reading r₁ a ≡ settings s m → reading r₂ b ≡ settings s n → take m a ≡ take n b
one_record r₁ r₂ a b s m n A B same p q =
    (written_read r₁ a s m A p).record_is ∙ ap (λ (v : ℕ). record_of v s) same ∙ sym (written_read r₂ b s n B q).record_is

-- What is kept is moved to the start, and what comes is put behind it.
use Rattle.std.proofs.Common.{◌≡◌, ℕ, ◌+◌, ◌-◌, ◌<◌, ◌≤◌, ◌↔◌, ◌==◌, not, IsTrue, List, length, take, drop, arith, ap, subst, sym, ◌∙◌}
use Rattle.std.proofs.lemmas.Bool.Decides.{nat_tests}
use Rattle.std.proofs.lemmas.Result.{err_from_is_err_and}
use Rattle.std.proofs.lemmas.List.{length-append, length-take-le, length-drop, take-append-le, take-take}
use Rattle.std.proofs.lemmas.Slice.{take-put_mid_below, between_is}
use Rattle.std.specs.List.{copy_within}
use borrow.Rule.Slice.PartMut.{put_mid}
use Rattle.script_lines.specs.Lines.{Begins}
use Rattle.script_lines.proofs.lines.Lines.read_more.Goals as goal

-- after the move the bytes from k up to f stand at the start
moved_first : (k f : ℕ) (xs : List ℕ) → k ≤ f → f ≤ length xs → take (f - k) (copy_within xs k f 0) ≡ drop k (take f xs)
moved_first k f xs before within =
    let whole : length (take (f - k) (drop k xs)) ≡ f - k = length-take-le (f - k) (drop k xs) (omega (arith, length-drop k xs)) in
    take-append-le (f - k) (take (f - k) (drop k xs)) (drop (0 + (f - k)) xs) (omega arith)
    ∙ take-take (f - k) (f - k) (drop k xs) (omega arith)
    ∙ between_is xs k f

-- what comes behind them leaves them as they are
stays : (k f n : ℕ) (xs moved came : List ℕ) → k ≤ f → f ≤ length xs → moved ≡ copy_within xs k f 0 → length moved ≡ length xs → take (f - k) (put_mid (f - k) n moved came) ≡ drop k (take f xs)
stays k f n xs moved came before within is_moved same =
    take-put_mid_below (f - k) n moved came (f - k) (omega arith) (omega arith)
    ∙ ap (λ zs. take (f - k) zs) is_moved
    ∙ moved_first k f xs before within

-- so they are the first of what was read then
kept : (k f n m : ℕ) (xs moved came : List ℕ) → k ≤ f → f ≤ length xs → moved ≡ copy_within xs k f 0 → length moved ≡ length xs → f - k ≤ m → take (length (take f xs) - k) (take m (put_mid (f - k) n moved came)) ≡ drop k (take f xs)
kept k f n m xs moved came before within is_moved same more =
    let held : length (take f xs) - k ≡ f - k = ap (λ l. l - k) (length-take-le f xs within) in
    ap (λ l. take l (take m (put_mid (f - k) n moved came))) held
    ∙ take-take (f - k) m (put_mid (f - k) n moved came) more
    ∙ stays k f n xs moved came before within is_moved same

-- n bytes of what comes are among those that are there then
among : (a k n : ℕ) (xs ys : List ℕ) → n ≤ length ys → a ≤ length xs → a + n ≤ length (put_mid a k xs ys)
among a k n xs ys some within = simp length-append (omega (arith, length-take-le a xs within))

-- of n more bytes the answer is whether there are any
told : (n kept whole : ℕ) → whole ≡ kept + n → IsTrue (not (n == 0)) ↔ (kept < whole)
told n kept whole sum = (λ any. grind (arith, nat_tests), λ longer. grind (arith, nat_tests))

pub returns-in_err-count : goal.returns-in_err-count
returns-in_err-count g c =
    let k = c.unfinished-start.result in
    let f = c.self.inside.filled in
    let bytes = put_mid (f - k) (524288 - (f - k)) c.copy_within.new.self c.read-2.new.buf in
    let begins : Begins c.args.self.now k = let P : List ℕ → Type 0 = λ held. Begins held k in subst P c.read.ensures c.unfinished-start.ensures in
    let within : f ≤ length c.self.inside.bytes = omega arith in
    let all : length c.args.self.now ≡ f = sym (ap length c.self.view_is) ∙ length-take-le f c.self.inside.bytes within in
    let before : k ≤ f = omega (arith, all, begins.within) in
    let P : List ℕ → Type 0 = λ held. take (length held - k) (take (f - k) bytes) ≡ drop k held in
    let Q : List ℕ → Type 0 = λ held. take (f - k) bytes ≡ drop k held in (
      k,
      begins,
      subst P c.self.view_is (kept k f _ _ c.self.inside.bytes c.copy_within.new.self c.read-2.new.buf before within c.copy_within.ensures.after c.copy_within.ensures.len (omega arith)),
      let e = err_from_is_err_and c.from_residual.result c.from_residual.ensures.1 in rw e.1 (subst Q c.self.view_is (stays k f _ c.self.inside.bytes c.copy_within.new.self c.read-2.new.buf before within c.copy_within.ensures.after c.copy_within.ensures.len)),
    )

pub returns : goal.returns
returns g c =
    let k = c.unfinished-start.result in
    let f = c.self.inside.filled in
    let bytes = put_mid (f - k) (524288 - (f - k)) c.copy_within.new.self c.read-2.new.buf in
    let begins : Begins c.args.self.now k = let P : List ℕ → Type 0 = λ held. Begins held k in subst P c.read.ensures c.unfinished-start.ensures in
    let within : f ≤ length c.self.inside.bytes = omega arith in
    let all : length c.args.self.now ≡ f = sym (ap length c.self.view_is) ∙ length-take-le f c.self.inside.bytes within in
    let before : k ≤ f = omega (arith, all, begins.within) in
    let n = c.in_ok-count.count in
    let room : f - k + n ≤ length bytes = among (f - k) _ n c.copy_within.new.self c.read-2.new.buf c.in_ok-count.ensures.bound.0 (omega arith) in
    let P : List ℕ → Type 0 = λ held. take (length held - k) (take (f - k + n) bytes) ≡ drop k held in
    (k, begins, subst P c.self.view_is (kept k f _ _ c.self.inside.bytes c.copy_within.new.self c.read-2.new.buf before within c.copy_within.ensures.after c.copy_within.ensures.len (omega arith)), told n _ _ (length-take-le (f - k + n) bytes room ∙ ap (λ l. l - k + n) (sym all)))

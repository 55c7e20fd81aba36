-- Of the words as many are copied behind the text as there is room for: the text is then the first N bytes of the two.
use Rattle.std.proofs.Common.{◌≡◌, ℕ, ◌≤◌, List, ◌++◌, take, ◌+◌, ◌-◌, length, min, arith, ap, ap₂, sym, ◌∙◌}
use Rattle.std.proofs.lemmas.List.{length-take, take_min}
use Rattle.std.proofs.lemmas.Slice.{take-put_mid}
use Rattle.std.proofs.Math.Seq.{take-append-add}
use borrow.Rule.Slice.PartMut.{put_mid}
use Rattle.script_said.proofs.text.TextWrite.write_str.Goals as goal

-- n words are written behind the f bytes of a text, as many as fit
put_behind : (N f n : ℕ) (xs ws ys : List ℕ) → f ≤ N → length xs ≡ N → n ≡ min (length ws) (N - f) → ys ≡ take n ws → take (f + n) (put_mid f (f + n - f) xs ys) ≡ take N (take f xs ++ ws)
put_behind N f n xs ws ys within full count put =
    let at : length (take f xs) ≡ f = omega (arith, length-take f xs) in
    let wrote : length ys ≡ n = ap length put ∙ omega (arith, length-take n ws) in
    let least : n ≡ min (N - f) (length ws) = omega arith in
    let cut : take n ws ≡ take (N - f) ws = ap (λ k. take k ws) least ∙ take_min (N - f) ws in
    let most : N ≡ length (take f xs) + (N - f) = omega arith in
    take-put_mid f _ xs ys (f + n) (omega arith) (omega arith)
    ∙ ap (λ zs. take f xs ++ zs) (put ∙ cut)
    ∙ sym (ap (λ k. take k (take f xs ++ ws)) most ∙ take-append-add (take f xs) ws (N - f))

pub returns : goal.returns
returns g c =
    let full : length c.self.inside.bytes ≡ g.row.N = omega arith in
    let put = put_behind g.row.N c.self.inside.filled c.min-count.result c.self.inside.bytes c.as_bytes-words.result.now c.copy_from_slice.new.self (omega arith) full c.min-count.ensures c.copy_from_slice.ensures.after in
    record { ok = λ _. put ∙ ap₂ (λ a b. take g.row.N (a ++ b)) c.self.view_is c.as_bytes-words.ensures.value }

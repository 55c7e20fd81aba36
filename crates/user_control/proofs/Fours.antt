-- Numbers of four bytes one after the other, and how long a body of them is.
use Rattle.std.proofs.Common.{◌≡◌, ℕ, ◌+◌, ◌*◌, List, [], ◌∷◌, ◌++◌, length, length-append, append_assoc, append-nil, refl, arith, add-one, take, take-suc, get_or, ◌<◌}
use Rattle.fields.specs.Endian.{big_endian}
use Rattle.fields.proofs.Endian.{length_big}
use Rattle.user_control.specs.Body.{body_of, fours}

pub length_fours : (ns : List ℕ) → length (fours ns) ≡ 4 * length ns
length_fours [] = refl
length_fours (n ∷ ns) = rw (length-append, length_big, length_fours ns) (omega arith)

pub length_body : (code : ℕ) (ns : List ℕ) → length (body_of code ns) ≡ 2 + 4 * length ns
length_body code ns = rw (length-append, length_big, length_fours ns)

fours_append : (ns ms : List ℕ) → fours (ns ++ ms) ≡ fours ns ++ fours ms
fours_append [] ms = refl
fours_append (n ∷ ns) ms = rw (fours_append ns ms, append_assoc)

-- one number more
pub body_more : (code : ℕ) (ns : List ℕ) (i : ℕ) → i < length ns → body_of code (take i ns) ++ big_endian 4 (get_or ns i 0) ≡ body_of code (take (i + 1) ns)
body_more code ns i h =
    rw (add-one, take-suc ns i 0 h, fours_append, append-nil (big_endian 4 (get_or ns i 0)), append_assoc)

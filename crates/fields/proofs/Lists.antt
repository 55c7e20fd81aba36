-- Bytes stored one run after the other, and the numbers that parts of bytes mean.
use Rattle.std.proofs.Common.{◌≡◌, ℕ, zero, suc, ◌+◌, ◌%◌, ◌^◌, ◌<◌, ◌≤◌, Bool, true, false, cond, leb, List, [], ◌∷◌, ◌++◌, length, take, drop, set, sym, refl, ap, ◌∙◌, subst, append_assoc, append-nil, add-zero, add_assoc, add-suc, suc-add, arith, length-append, length-drop, drop_of_length-le, length-take, length-take-le, get_or-drop, drop-drop, take_at, le-leb}
use lib.Seq.{length-sets, sets, sets-eq, take-append_seam, drop-append-add}
use borrow.Author.Tests.{lt-leb}
use Rattle.fields.specs.Endian.{big_endian, number, Bytes}
use Rattle.fields.specs.Output.{Adds, over, stored}
use Rattle.fields.proofs.Endian.{number_fits, big_gather}

-- a part of the output, written whole
pub part_stored : (out bs : List ℕ) (at n : ℕ) → length bs ≡ n → at + n ≤ length out → take at out ++ (bs ++ drop n (drop at out)) ≡ stored out at bs
unfolding stored
part_stored out bs at n e h =
    let fits : at + length bs ≤ length out = rw e h in
    rw (le-leb (at + length bs) (length out) fits, sets-eq bs out at fits, drop-drop, ← e, append_assoc)

-- an output that does not reach far enough
pub stored_none : (out bs : List ℕ) (at n : ℕ) → length bs ≡ n → length out < at + n → out ≡ stored out at bs
unfolding stored
stored_none out bs at n e h = rw (e, lt-leb (at + n) (length out) h)

-- where the output reaches far enough
pub stored_fits : (out bs : List ℕ) (at : ℕ) → at + length bs ≤ length out → stored out at bs ≡ sets out at bs
unfolding stored
stored_fits out bs at h = rw (le-leb (at + length bs) (length out) h)

pub stored_nil : (out : List ℕ) (at : ℕ) → stored out at [] ≡ out
unfolding stored
stored_nil out at = go (leb (at + 0) (length out))
  where
    go : (b : Bool) → cond b out out ≡ out
    go true = refl
    go false = refl

pub sets_append : (l : List ℕ) (i : ℕ) (xs ys : List ℕ) → sets (sets l i xs) (i + length xs) ys ≡ sets l i (xs ++ ys)
sets_append l i [] ys = rw add-zero
sets_append l i (x ∷ xs) ys = rw (add-suc, ← suc-add) (sets_append (set l i x) (suc i) xs ys)

-- the first elements, up to the end of a run of stores
pub sets_front : (l xs : List ℕ) (i : ℕ) → i + length xs ≤ length l → take (i + length xs) (sets l i xs) ≡ take i l ++ xs
sets_front l xs i h =
    let n : length (take i l ++ xs) ≡ i + length xs = length-append (take i l) xs ∙ rw (length-take-le i l (omega (arith, h))) in
    rw (sets-eq xs l i h, ← n) (take-append_seam (take i l ++ xs) _)

-- two runs, the second straight after the first
pub stored_append : (out xs ys : List ℕ) (at next : ℕ) → next ≡ at + length xs → next + length ys ≤ length out
    → stored (stored out at xs) next ys ≡ stored out at (xs ++ ys)
unfolding stored
stored_append out xs ys at next e h =
    let one : at + length xs ≤ length out = omega arith in
    let two : next + length ys ≤ length (sets out at xs) = rw length-sets h in
    let both : at + length (xs ++ ys) ≤ length out = rw length-append (omega arith) in
    rw (le-leb (at + length xs) (length out) one, le-leb (next + length ys) (length (sets out at xs)) two, le-leb (at + length (xs ++ ys)) (length out) both, e)
    (sets_append out at xs ys)

pub adds_same : {out xs ys : List ℕ} {at n : ℕ} {o : List ℕ} → xs ≡ ys → Adds out at xs n o → Adds out at ys n o
adds_same {out} {xs} {ys} {at} {n} {o} e a = subst (λ (l : List ℕ). Adds out at l n o) e a

-- nothing added
pub adds_none : (out : List ℕ) (at : ℕ) → Adds out at [] at out
adds_none out at = record { place = omega arith; left = sym (stored_nil out at) }

-- a run added, and another straight after it
pub adds_then : (out xs ys : List ℕ) {at n m : ℕ} {o o' : List ℕ} → Adds out at xs n o → Adds o n ys m o' → n + length ys ≤ length out
    → Adds out at (xs ++ ys) m o'
adds_then out xs ys {at} {n} a b h = record {
  place = b.place ∙ rw (length-append, a.place) (add_assoc at (length xs) (length ys));
  left = b.left ∙ rw a.left (stored_append out xs ys at n a.place h);
}

-- more bytes straight after those over the start of the output
pub stored_over : (xs ys out : List ℕ) (n : ℕ) → length xs ≡ n → n + length ys ≤ length out → stored (over xs out) n ys ≡ over (xs ++ ys) out
unfolding stored
stored_over xs ys out n e h =
    let whole : length (over xs out) ≡ length out = rw (length-append, length-drop) (omega arith) in
    let fits : n + length ys ≤ length (over xs out) = rw whole h in
    let after : drop (n + length ys) (xs ++ drop (length xs) out) ≡ drop (n + length ys) out = rw (← e, drop-append-add, drop-drop) in
    rw (le-leb (n + length ys) (length (over xs out)) fits, sets-eq ys (over xs out) n fits, take_at xs (drop (length xs) out) n e, after, length-append, e) refl

-- an output that is written whole
pub stored_whole : (out bs : List ℕ) → length bs ≡ length out → stored out 0 bs ≡ bs
stored_whole out bs e =
    stored_over [] bs out 0 refl (omega arith) ∙ rw (e, drop_of_length-le out {i = length out} (omega arith)) (append-nil bs)

-- the same, as a step of a run of stores
pub stored_next : (xs ys out : List ℕ) {o o' : List ℕ} (n : ℕ) → o' ≡ stored o n ys → o ≡ over xs out → length xs ≡ n → n + length ys ≤ length out
    → o' ≡ over (xs ++ ys) out
stored_next xs ys out n e f k h = e ∙ ap (λ (l : List ℕ). stored l n ys) f ∙ stored_over xs ys out n k h

pub bytes_drop : (n : ℕ) (bs : List ℕ) → Bytes bs → Bytes (drop n bs)
bytes_drop n bs h i = rw get_or-drop (h (n + i))

pub bytes_take : (n : ℕ) (bs : List ℕ) → Bytes bs → Bytes (take n bs)
bytes_take zero bs h i = omega arith
bytes_take (suc n) [] h i = h i
bytes_take (suc n) (b ∷ bs) h zero = h 0
bytes_take (suc n) (b ∷ bs) h (suc i) = bytes_take n bs (λ j. h (suc j)) i

-- a part of at most four bytes means a number of 32 bits
pub part_fits : (bs : List ℕ) → Bytes bs → (at width : ℕ) → width ≤ 4 → number (take width (drop at bs)) % 2 ^ 32 ≡ number (take width (drop at bs))
part_fits bs h at width k =
    number_fits (take width (drop at bs)) (bytes_take width (drop at bs) (bytes_drop at bs h)) (rw length-take (omega arith))

-- the first n bytes, read and written again
pub big_take : (n : ℕ) (bs : List ℕ) → Bytes bs → n ≤ length bs → big_endian n (number (take n bs)) ≡ take n bs
big_take n bs h k =
    let e : length (take n bs) ≡ n = length-take-le n bs k in
    rw e at (big_gather 0 (take n bs) (bytes_take n bs h))

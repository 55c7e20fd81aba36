-- Reading what was written gives the event back whatever follows it, and writing what was read gives the body's own bytes:
-- both go number by number, and a number by its four bytes.
use Rattle.std.proofs.Common.{◌≡◌, ℕ, zero, suc, ◌+◌, ◌*◌, ◌^◌, ◌<◌, ◌≤◌, Bool, true, false, cond, not, ◌&&◌, ◌||◌, ltb, List, [], ◌∷◌, ◌++◌, length, get_or, take, drop, refl, ◌∙◌, append_assoc, arith, lit<, length-append, length-drop, take_at, take-add, drop_at, ltb-false}
use Rattle.fields.specs.Endian.{big_endian, Bytes}
use Rattle.fields.proofs.Endian.{length_big, number_big}
use Rattle.fields.proofs.Lists.{bytes_drop, big_take}
use Rattle.user_control.specs.declared.UserControlEvent.{UserControlEvent}
use Rattle.user_control.specs.declared.UserControlEvent.TheVariants.{StreamBegin, StreamEof, StreamDry, SetBufferLength, StreamIsRecorded, PingRequest, PingResponse, BufferEmpty, BufferReady}
use Rattle.user_control.specs.Body.{code, numbers, fours, body}
use Rattle.user_control.specs.Answer.{event, refused}
use Rattle.user_control.specs.Reading.{code_in, numbers_in, known, count, body_length, reading}
use Rattle.user_control.proofs.Fours.{length_fours}
use Rattle.user_control.proofs.Reading.{reads_event}

numbers_fours : (ns rest : List ℕ) → ((i : ℕ) → get_or ns i 0 < 2 ^ 32) → numbers_in (length ns) (fours ns ++ rest) ≡ ns
numbers_fours [] rest h = refl
numbers_fours (n ∷ ns) rest h =
    rw (append_assoc, take_at (big_endian 4 n) (fours ns ++ rest) 4 (length_big 4 n), drop_at (big_endian 4 n) (fours ns ++ rest) 4 (length_big 4 n), number_big 4 n (h 0), numbers_fours ns rest (λ i. h (suc i)))

fours_numbers : (n : ℕ) (bs : List ℕ) → Bytes bs → 4 * n ≤ length bs → fours (numbers_in n bs) ≡ take (4 * n) bs
fours_numbers zero bs h k = refl
fours_numbers (suc n) bs h k =
    let e : 4 * suc n ≡ 4 + 4 * n = omega arith in
    let more : 4 * n ≤ length (drop 4 bs) = rw length-drop (omega arith) in
    rw (e, take-add 4 (4 * n) bs, big_take 4 bs h (omega arith), fours_numbers n (drop 4 bs) (bytes_drop 4 bs h) more)

-- each event's code is known, has as many numbers as the event, and fits its two bytes
codes : (e : UserControlEvent) → (known (code e) ≡ true) × (count (code e) ≡ length (numbers e)) × (code e < 256 ^ 2)
unfolding known count
codes (StreamBegin s) = (refl, refl, lit< tt)
codes (StreamEof s) = (refl, refl, lit< tt)
codes (StreamDry s) = (refl, refl, lit< tt)
codes (SetBufferLength s l) = (refl, refl, lit< tt)
codes (StreamIsRecorded s) = (refl, refl, lit< tt)
codes (PingRequest t) = (refl, refl, lit< tt)
codes (PingResponse t) = (refl, refl, lit< tt)
codes (BufferEmpty s) = (refl, refl, lit< tt)
codes (BufferReady s) = (refl, refl, lit< tt)

-- reading what was written
pub read_written : (e : UserControlEvent) (rest : List ℕ) → ((i : ℕ) → get_or (numbers e) i 0 < 2 ^ 32)
    → reading (body e ++ rest) ≡ event (code e) (numbers e)
read_written e rest h =
    let f = codes e in
    let bytes = big_endian 2 (code e) ++ (fours (numbers e) ++ rest) in
    let size : length bytes ≡ 2 + (4 * length (numbers e) + length rest) = simp (length-append, length_big, length_fours) in
    let c : code_in bytes ≡ code e = rw (take_at (big_endian 2 (code e)) (fours (numbers e) ++ rest) 2 (length_big 2 (code e))) (number_big 2 (code e) f.2) in
    rw append_assoc
    (reads_event bytes (omega arith) (code e) c f.0 (omega (arith, f.1))
    ∙ rw (f.1, drop_at (big_endian 2 (code e)) (fours (numbers e) ++ rest) 2 (length_big 2 (code e)), numbers_fours (numbers e) rest h))

-- what a read event says of the bytes
read_says : (bytes : List ℕ) (c : ℕ) (ns : List ℕ) → reading bytes ≡ event c ns
    → (code_in bytes ≡ c) × (numbers_in (count c) (drop 2 bytes) ≡ ns) × (body_length c ≤ length bytes)
unfolding reading
read_says bytes c ns h =
    go (ltb (length bytes) 2) (known (code_in bytes)) (ltb (length bytes) (body_length (code_in bytes))) refl h
  where
    go : (s k l : Bool) → ltb (length bytes) (body_length (code_in bytes)) ≡ l
        → cond (s || (k && l)) (refused 15) (cond (not k) (refused 16) (event (code_in bytes) (numbers_in (count (code_in bytes)) (drop 2 bytes)))) ≡ event c ns
        → (code_in bytes ≡ c) × (numbers_in (count c) (drop 2 bytes) ≡ ns) × (body_length c ≤ length bytes)
    go false true false e h =
        let same : code_in bytes ≡ c = cc in
        let all : numbers_in (count (code_in bytes)) (drop 2 bytes) ≡ ns = cc in
        let enough = ltb-false (length bytes) (body_length (code_in bytes)) e in
        (same, rw same at all, rw same at enough)
    go true k l e h = absurd (let z : ◌≡◌ {A = ℕ} 0 1 = cc in omega arith)
    go false false l e h = absurd (let z : ◌≡◌ {A = ℕ} 0 1 = cc in omega arith)
    go false true true e h = absurd (let z : ◌≡◌ {A = ℕ} 0 1 = cc in omega arith)

-- writing what was read
pub write_read : (bytes : List ℕ) → Bytes bytes → (e : UserControlEvent) → reading bytes ≡ event (code e) (numbers e)
    → take (length (body e)) bytes ≡ body e
write_read bytes B e h =
    let f = codes e in
    let r = read_says bytes (code e) (numbers e) h in
    let size : length (body e) ≡ 2 + 4 * length (numbers e) = simp (length-append, length_big, length_fours) in
    let rest : 4 * length (numbers e) ≤ length (drop 2 bytes) = rw length-drop (omega (arith, f.1)) in
    let head : big_endian 2 (code e) ≡ take 2 bytes = rw (← r.0) (big_take 2 bytes B (omega arith)) in
    let tail : fours (numbers e) ≡ take (4 * length (numbers e)) (drop 2 bytes) =
    rw (← f.1, ← r.1) (fours_numbers (count (code e)) (drop 2 bytes) (bytes_drop 2 bytes B) (rw f.1 rest))
    in
    rw (size, take-add 2 (4 * length (numbers e)) bytes, head, tail)

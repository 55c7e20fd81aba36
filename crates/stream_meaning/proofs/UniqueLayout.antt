-- No chunk's bytes begin those of another that can come where it can: each part of a chunk has its width from the parts before it and the stream.
use Rattle.std.proofs.Common.{◌≡◌, ℕ, zero, suc, ◌+◌, ◌-◌, ◌*◌, ◌/◌, ◌%◌, ◌^◌, ◌<◌, min, List, [], ◌∷◌, ◌++◌, length, sym, refl, ap, ◌∙◌, subst, append_assoc, div-lt_iff_lt-mul, pow-suc, arith, lit<}
use mathlib.Core.Option.{get_or}
use Rattle.fields.specs.Endian.{big_endian, little_endian, number}
use Rattle.fields.proofs.Endian.{length_big, number_big}
use Rattle.chunk_header.specs.Layout.{Chunk, Extended, Form, FormFits, Header, HeaderFits, absent, basic_bytes, chunk_bytes, extended_bytes, format, header_bytes, one, present, three, two, type0, type1, type2, type3}
use Rattle.decoding.proofs.Covers.{heads, tails}
use Rattle.stream_meaning.specs.Reading.{OneChunk}
use Rattle.stream_meaning.specs.Stream.{Stream, ThereWhere, carries, said}

-- parts of one length
same_parts : (a b r s : List ℕ) → length a ≡ length b → a ++ r ≡ b ++ s → (a ≡ b) × (r ≡ s)
same_parts [] [] r s l h = (refl, h)
same_parts [] (y ∷ b) r s l h = absurd (omega (arith, l))
same_parts (x ∷ a) [] r s l h = absurd (omega (arith, l))
same_parts (x ∷ a) (y ∷ b) r s l h =
    let t = same_parts a b r s (omega (arith, l)) (tails h) in
    let e = heads h in
    (rw (e, t.0), t.1)

-- a number of n bytes
same_big : (n x y : ℕ) (r s : List ℕ) → x < 256 ^ n → y < 256 ^ n → big_endian n x ++ r ≡ big_endian n y ++ s → (x ≡ y) × (r ≡ s)
same_big n x y r s p q h =
    let t = same_parts (big_endian n x) (big_endian n y) r s (length_big n x ∙ sym (length_big n y)) h in
    (sym (number_big n x p) ∙ ap number t.0 ∙ number_big n y q, t.1)

same_little : (n x y : ℕ) (r s : List ℕ) → x < 256 ^ n → y < 256 ^ n → little_endian n x ++ r ≡ little_endian n y ++ s → (x ≡ y) × (r ≡ s)
unfolding little_endian
same_little zero x y r s p q h = (omega (arith, p, q), h)
same_little (suc n) x y r s p q h =
    let p' : x < 256 ^ n * 256 = rw pow-suc at p in
    let q' : y < 256 ^ n * 256 = rw pow-suc at q in
    let low : x % 256 ≡ y % 256 = heads h in
    let t = same_little n (x / 256) (y / 256) r s ((div-lt_iff_lt-mul (lit< tt)).1 p') ((div-lt_iff_lt-mul (lit< tt)).1 q') (tails h) in
    let high : x / 256 ≡ y / 256 = t.0 in
    (omega (arith, low, high), t.1)

-- the basic header
record SameBasic (f f' : Form) (t t' i i' : ℕ) (r s : List ℕ) : Type 0 where
  form : f ≡ f'
  type : t ≡ t'
  id : i ≡ i'
  rest : r ≡ s

same_basic : (f f' : Form) (t t' i i' : ℕ) (r s : List ℕ) → FormFits f i → FormFits f' i' → basic_bytes f t i ++ r ≡ basic_bytes f' t' i' ++ s
    → SameBasic f f' t t' i i' r s
same_basic one one t t' i i' r s p q h =
    let e : 64 * t + i ≡ 64 * t' + i' = heads h in
    record { form = refl; type = omega (arith, e, p, q); id = omega (arith, e, p, q); rest = tails h }
same_basic two two t t' i i' r s p q h =
    let e : 64 * t + 0 ≡ 64 * t' + 0 = heads h in
    let k : i - 64 ≡ i' - 64 = heads (tails h) in
    record { form = refl; type = omega (arith, e); id = omega (arith, k, p, q); rest = tails (tails h) }
same_basic three three t t' i i' r s p q h =
    let e : 64 * t + 1 ≡ 64 * t' + 1 = heads h in
    let k = same_little 2 (i - 64) (i' - 64) r s (omega (arith, p)) (omega (arith, q)) (tails h) in
    record { form = refl; type = omega (arith, e); id = omega (arith, k.0, p, q); rest = k.1 }
same_basic one two t t' i i' r s p q h = let e : 64 * t + i ≡ 64 * t' + 0 = heads h in absurd (omega (arith, e, p))
same_basic one three t t' i i' r s p q h = let e : 64 * t + i ≡ 64 * t' + 1 = heads h in absurd (omega (arith, e, p))
same_basic two one t t' i i' r s p q h = let e : 64 * t + 0 ≡ 64 * t' + i' = heads h in absurd (omega (arith, e, q))
same_basic two three t t' i i' r s p q h = let e : 64 * t + 0 ≡ 64 * t' + 1 = heads h in absurd (omega (arith, e))
same_basic three one t t' i i' r s p q h = let e : 64 * t + 1 ≡ 64 * t' + i' = heads h in absurd (omega (arith, e, q))
same_basic three two t t' i i' r s p q h = let e : 64 * t + 1 ≡ 64 * t' + 0 = heads h in absurd (omega (arith, e))

-- the message header: its type is known
same_header : (h h' : Header) (r s : List ℕ) → HeaderFits h → HeaderFits h' → format h ≡ format h' → header_bytes h ++ r ≡ header_bytes h' ++ s → (h ≡ h') × (r ≡ s)
same_header (type0 time long type stream) (type0 time' long' type' stream') r s p q f h =
    let after_time = big_endian 3 long ++ (big_endian 1 type ++ (little_endian 4 stream ++ r)) in
    let after_time' = big_endian 3 long' ++ (big_endian 1 type' ++ (little_endian 4 stream' ++ s)) in
    let a = same_big 3 time time' after_time after_time' p.0 q.0 (simp append_assoc at h) in
    let b = same_big 3 long long' (big_endian 1 type ++ (little_endian 4 stream ++ r)) (big_endian 1 type' ++ (little_endian 4 stream' ++ s)) p.1 q.1 a.1 in
    let c = same_big 1 type type' (little_endian 4 stream ++ r) (little_endian 4 stream' ++ s) p.2 q.2 b.1 in
    let d = same_little 4 stream stream' r s p.3 q.3 c.1 in
    (rw (a.0, b.0, c.0, d.0), d.1)
same_header (type1 delta long type) (type1 delta' long' type') r s p q f h =
    let a = same_big 3 delta delta' (big_endian 3 long ++ (big_endian 1 type ++ r)) (big_endian 3 long' ++ (big_endian 1 type' ++ s)) p.0 q.0 (simp append_assoc at h) in
    let b = same_big 3 long long' (big_endian 1 type ++ r) (big_endian 1 type' ++ s) p.1 q.1 a.1 in
    let c = same_big 1 type type' r s p.2 q.2 b.1 in
    (rw (a.0, b.0, c.0), c.1)
same_header (type2 delta) (type2 delta') r s p q f h = let a = same_big 3 delta delta' r s p q h in (rw a.0, a.1)
same_header type3 type3 r s p q f h = (refl, h)
same_header (type0 time long type stream) (type1 delta' long' type') r s p q f h = absurd (omega (arith, f))
same_header (type0 time long type stream) (type2 delta') r s p q f h = absurd (omega (arith, f))
same_header (type0 time long type stream) type3 r s p q f h = absurd (omega (arith, f))
same_header (type1 delta long type) (type0 time' long' type' stream') r s p q f h = absurd (omega (arith, f))
same_header (type1 delta long type) (type2 delta') r s p q f h = absurd (omega (arith, f))
same_header (type1 delta long type) type3 r s p q f h = absurd (omega (arith, f))
same_header (type2 delta) (type0 time' long' type' stream') r s p q f h = absurd (omega (arith, f))
same_header (type2 delta) (type1 delta' long' type') r s p q f h = absurd (omega (arith, f))
same_header (type2 delta) type3 r s p q f h = absurd (omega (arith, f))
same_header type3 (type0 time' long' type' stream') r s p q f h = absurd (omega (arith, f))
same_header type3 (type1 delta' long' type') r s p q f h = absurd (omega (arith, f))
same_header type3 (type2 delta') r s p q f h = absurd (omega (arith, f))

-- the extended time: the field tells whether it is there
same_extended : (x x' : Extended) (field : ℕ) (r s : List ℕ) → ThereWhere x field → ThereWhere x' field → extended_bytes x ++ r ≡ extended_bytes x' ++ s → (x ≡ x') × (r ≡ s)
same_extended absent absent field r s p q h = (refl, h)
same_extended absent (present time') field r s p q h = absurd (p q.0)
same_extended (present time) absent field r s p q h = absurd (q p.0)
same_extended (present time) (present time') field r s p q h = let a = same_big 4 time time' r s p.1 q.1 h in (ap present a.0, a.1)

-- the parts of a chunk, and what follows it
parts : (c : Chunk) (rest : List ℕ)
    → chunk_bytes c ++ rest ≡ basic_bytes c.form (format c.header) c.id ++ (header_bytes c.header ++ (extended_bytes c.extended ++ (c.payload ++ rest)))
unfolding chunk_bytes
parts c rest = simp append_assoc

-- what a header on a stream says of the field, and of the payload due
abbrev field_on : Stream → Header → ℕ
field_on s h = (carries h (get_or s.stored (said 0 0 0 0 0))).field

abbrev due_on : (now : ℕ) → Stream → Header → ℕ
due_on now s h = min now ((carries h (get_or s.stored (said 0 0 0 0 0))).length - length (get_or s.come []))

pub one_chunk : OneChunk
one_chunk now streams c c' after after' fits fits' h =
    let a = same_basic c.form c'.form (format c.header) (format c'.header) c.id c'.id _ _ fits.head.form fits'.head.form (sym (parts c after) ∙ h ∙ parts c' after') in
    let b = same_header c.header c'.header _ _ fits.head.fields fits'.head.fields a.type a.rest in
    let field : field_on (streams c'.id) c'.header ≡ field_on (streams c.id) c.header =
    ap (λ (i : ℕ). field_on (streams i) c'.header) (sym a.id) ∙ ap (λ (k : Header). field_on (streams c.id) k) (sym b.0)
    in
    let due : due_on now (streams c.id) c.header ≡ due_on now (streams c'.id) c'.header =
    ap (λ (i : ℕ). due_on now (streams i) c.header) a.id ∙ ap (λ (k : Header). due_on now (streams c'.id) k) b.0
    in
    let x = same_extended c.extended c'.extended (field_on (streams c.id) c.header) _ _ fits.head.extended (subst (λ (n : ℕ). ThereWhere c'.extended n) field fits'.head.extended) b.1 in
    let y = same_parts c.payload c'.payload after after' (fits.payload_of ∙ due ∙ sym fits'.payload_of) x.1 in
    (chunk_of c c' a.form a.id b.0 x.0 y.0, y.1)
  where
    chunk_of : (c c' : Chunk) → c.form ≡ c'.form → c.id ≡ c'.id → c.header ≡ c'.header → c.extended ≡ c'.extended → c.payload ≡ c'.payload → c ≡ c'
    chunk_of c c' f i k x p = λ j. record { form = f j; id = i j; header = k j; extended = x j; payload = p j }

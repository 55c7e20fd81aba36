-- Any bytes are the beginning of chunks: each field takes as many bytes as it has, and every byte is a digit of some number.
use Rattle.std.proofs.Common.{◌≡◌, ℕ, zero, suc, ◌+◌, ◌-◌, ◌*◌, ◌/◌, ◌%◌, ◌^◌, ◌<◌, ◌≤◌, Bool, true, false, eqb, List, [], ◌∷◌, ◌++◌, length, take, drop, replicate, sym, refl, ap, ◌∙◌, append_assoc, arith, length-append, length-drop, take-append-drop, length-take, eqb-true}
use lib.ListN.{length-replicate}
use borrow.Author.Tests.{eqb-false}
use Rattle.fields.specs.Endian.{Bytes, big_endian, little_endian, number, swapped}
use Rattle.fields.proofs.Endian.{number_lt}
use Rattle.fields.proofs.Lists.{bytes_drop, bytes_take, big_take}
use Rattle.chunk_header.specs.Layout.{Chunk, Form, one, two, three, Header, type0, type1, type2, type3, Extended, absent, present, basic_bytes, header_bytes, extended_bytes, chunk_bytes, format, FormFits, HeaderFits}
use Rattle.decoding.specs.Decoder.{Decoder}
use Rattle.chunk_meaning.specs.Stored.{Row}
use Rattle.decoding.specs.Chunk.{ChunkFits, ExtendedFits, carried, left, row, row_of}
use Rattle.chunk_header.specs.Limits.{max_field}
use Rattle.fields.proofs.Swapped.{last_digit, little_take, other_digits, swapped_small}

-- the first n bytes say a number below 256 ^ n, and the others follow
pub record Reads (n : ℕ) (bs : List ℕ) : Type 0 where
  pub value : ℕ
  pub rest : List ℕ
  pub small : value < 256 ^ n
  pub is : bs ≡ big_endian n value ++ rest
  pub bytes : Bytes rest
  pub long : length bs ≡ n + length rest

reads : (n : ℕ) (bs : List ℕ) → Bytes bs → n ≤ length bs → Reads n bs
reads n bs h k =
    let l : length (take n bs) ≡ n = simp length-take (omega arith) in
    record {
      value = number (take n bs);
      rest = drop n bs;
      small = rw l at (number_lt (take n bs) (bytes_take n bs h));
      is = sym ((rw (big_take n bs h k)) ∙ take-append-drop n bs);
      bytes = bytes_drop n bs h;
      long = simp length-drop (omega arith);
    }

-- the little-endian number of four bytes
pub record ReadsLittle (bs : List ℕ) : Type 0 where
  pub value : ℕ
  pub rest : List ℕ
  pub small : value < 2 ^ 32
  pub is : bs ≡ little_endian 4 value ++ rest
  pub bytes : Bytes rest
  pub long : length bs ≡ 4 + length rest

reads_little : (bs : List ℕ) → Bytes bs → 4 ≤ length bs → ReadsLittle bs
reads_little bs h k = record {
  value = swapped (number (take 4 bs));
  rest = drop 4 bs;
  small = swapped_small (number (take 4 bs));
  is = sym ((rw (little_take bs h k)) ∙ take-append-drop 4 bs);
  bytes = bytes_drop 4 bs h;
  long = simp length-drop (omega arith);
}

-- the header of a type, from any bytes
pub record ReadsHeader (t : ℕ) (bs : List ℕ) : Type 0 where
  pub header : Header
  pub type_is : format header ≡ t
  pub fits : HeaderFits header
  pub rest : List ℕ
  pub is : bs ≡ header_bytes header ++ rest
  pub bytes : Bytes rest
  pub long : length bs ≤ 11 + length rest

header_0 : (bs : List ℕ) → Bytes bs → 11 ≤ length bs → ReadsHeader 0 bs
header_0 bs h k =
    let x = reads 3 bs h (omega arith) in
    let y = reads 3 x.rest x.bytes (omega (arith, x.long)) in
    let z = reads 1 y.rest y.bytes (omega (arith, x.long, y.long)) in
    let w = reads_little z.rest z.bytes (omega (arith, x.long, y.long, z.long)) in
    record {
      header = type0 x.value y.value z.value w.value;
      type_is = refl;
      fits = (x.small, y.small, z.small, w.small);
      rest = w.rest;
      is = joined (big_endian 3 x.value) (big_endian 3 y.value) (big_endian 1 z.value) (little_endian 4 w.value) w.rest x.is y.is z.is w.is;
      bytes = w.bytes;
      long = omega (arith, x.long, y.long, z.long, w.long);
    }
  where
    joined : {bs r1 r2 r3 : List ℕ} (p q r s rest : List ℕ) → bs ≡ p ++ r1 → r1 ≡ q ++ r2 → r2 ≡ r ++ r3 → r3 ≡ s ++ rest → bs ≡ p ++ q ++ r ++ s ++ rest
    joined p q r s rest a b c d = rw (a, b, c, d) (simp append_assoc)

header_1 : (bs : List ℕ) → Bytes bs → 11 ≤ length bs → ReadsHeader 1 bs
header_1 bs h k =
    let x = reads 3 bs h (omega arith) in
    let y = reads 3 x.rest x.bytes (omega (arith, x.long)) in
    let z = reads 1 y.rest y.bytes (omega (arith, x.long, y.long)) in
    record {
      header = type1 x.value y.value z.value;
      type_is = refl;
      fits = (x.small, y.small, z.small);
      rest = z.rest;
      is = joined (big_endian 3 x.value) (big_endian 3 y.value) (big_endian 1 z.value) z.rest x.is y.is z.is;
      bytes = z.bytes;
      long = omega (arith, x.long, y.long, z.long);
    }
  where
    joined : {bs r1 r2 : List ℕ} (p q r rest : List ℕ) → bs ≡ p ++ r1 → r1 ≡ q ++ r2 → r2 ≡ r ++ rest → bs ≡ p ++ q ++ r ++ rest
    joined p q r rest a b c = rw (a, b, c) (simp append_assoc)

header_of : (t : ℕ) (bs : List ℕ) → t < 4 → Bytes bs → 11 ≤ length bs → ReadsHeader t bs
header_of zero bs s h k = header_0 bs h k
header_of (suc zero) bs s h k = header_1 bs h k
header_of (suc (suc zero)) bs s h k =
    let x = reads 3 bs h (omega arith) in
    record { header = type2 x.value; type_is = refl; fits = x.small; rest = x.rest; is = x.is; bytes = x.bytes; long = omega (arith, x.long) }
header_of (suc (suc (suc zero))) bs s h k = record { header = type3; type_is = refl; fits = tt; rest = bs; is = refl; bytes = h; long = omega arith }
header_of (suc (suc (suc (suc t)))) bs s h k = absurd (omega arith)

-- a basic header, from any bytes
pub record ReadsBasic (bs : List ℕ) : Type 0 where
  pub form : Form
  pub type : ℕ
  pub id : ℕ
  pub fits : FormFits form id
  pub small : type < 4
  pub rest : List ℕ
  pub is : bs ≡ basic_bytes form type id ++ rest
  pub bytes : Bytes rest
  pub long : length bs ≤ 3 + length rest

basic_of_lem : (bs : List ℕ) → Bytes bs → 3 ≤ length bs → ReadsBasic bs
unfolding little_endian
basic_of_lem [] h k = absurd (omega arith)
basic_of_lem (b ∷ []) h k = absurd (omega arith)
basic_of_lem (b ∷ c ∷ []) h k = absurd (omega arith)
basic_of_lem (b ∷ c ∷ e ∷ bs) h k = by_low (eqb (b % 64) 0) (eqb (b % 64) 1) refl refl
  where
    byte : b < 256
    byte = h 0

    second : c < 256
    second = h 1

    third : e < 256
    third = h 2

    by_low : (t u : Bool) → eqb (b % 64) 0 ≡ t → eqb (b % 64) 1 ≡ u → ReadsBasic (b ∷ c ∷ e ∷ bs)
    by_low true u p q =
        let z = eqb-true (b % 64) 0 p in
        let x : b ≡ 64 * (b / 64) + 0 = omega arith in
        let y : c ≡ c + 64 - 64 = omega arith in
        record {
          form = two;
          type = b / 64;
          id = c + 64;
          fits = (omega arith, omega (arith, second));
          small = omega (arith, byte);
          rest = e ∷ bs;
          is = two_heads x y;
          bytes = λ i. h (suc (suc i));
          long = omega arith;
        }
      where
        two_heads : {x y : ℕ} → b ≡ x → c ≡ y → ◌≡◌ {A = List ℕ} (b ∷ c ∷ e ∷ bs) (x ∷ y ∷ e ∷ bs)
        two_heads p q = rw (p, q)
    by_low false true p q =
        let z = eqb-true (b % 64) 1 q in
        let x : b ≡ 64 * (b / 64) + 1 = omega arith in
        let n : 256 * e + c + 64 - 64 ≡ e * 256 + c = omega arith in
        let y : c ≡ (256 * e + c + 64 - 64) % 256 = rw (n, last_digit e c second) in
        let v : e ≡ e % 256 = omega (arith, third) in
        let w : e ≡ (256 * e + c + 64 - 64) / 256 % 256 = rw (n, other_digits e c second) v in
        record {
          form = three;
          type = b / 64;
          id = 256 * e + c + 64;
          fits = (omega arith, omega (arith, second, third));
          small = omega (arith, byte);
          rest = bs;
          is = three_heads x y w;
          bytes = λ i. h (suc (suc (suc i)));
          long = omega arith;
        }
      where
        three_heads : {x y z : ℕ} → b ≡ x → c ≡ y → e ≡ z → ◌≡◌ {A = List ℕ} (b ∷ c ∷ e ∷ bs) (x ∷ y ∷ z ∷ bs)
        three_heads p q r = rw (p, q, r)
    by_low false false p q =
        let z = eqb-false (b % 64) 0 p in
        let y = eqb-false (b % 64) 1 q in
        let x : b ≡ 64 * (b / 64) + b % 64 = omega arith in
        record {
          form = one;
          type = b / 64;
          id = b % 64;
          fits = (omega arith, omega arith);
          small = omega (arith, byte);
          rest = c ∷ e ∷ bs;
          is = ap (λ (x : ℕ). x ∷ c ∷ e ∷ bs) x;
          bytes = λ i. h (suc i);
          long = omega arith;
        }

-- an extended time, from any bytes, where the field says that there is one
pub record ReadsExtended (row : Row) (bs : List ℕ) : Type 0 where
  pub extended : Extended
  pub fits : ExtendedFits extended row
  pub rest : List ℕ
  pub is : bs ≡ extended_bytes extended ++ rest

extended_of_lem : (row : Row) (bs : List ℕ) → Bytes bs → 4 ≤ length bs → ReadsExtended row bs
extended_of_lem row bs h k = by_field (eqb row.timestamp_field max_field) refl
  where
    by_field : (t : Bool) → eqb row.timestamp_field max_field ≡ t → ReadsExtended row bs
    by_field true e =
        let x = reads 4 bs h k in
        record { extended = present x.value; fits = (eqb-true _ _ e, x.small); rest = x.rest; is = x.is }
    by_field false e = record { extended = absent; fits = eqb-false _ _ e; rest = bs; is = refl }

pub bytes_append : (xs ys : List ℕ) → Bytes xs → Bytes ys → Bytes (xs ++ ys)
bytes_append [] ys h k i = k i
bytes_append (x ∷ xs) ys h k zero = h 0
bytes_append (x ∷ xs) ys h k (suc i) = bytes_append xs ys (λ j. h (suc j)) k i

bytes_zeros : (n : ℕ) → Bytes (replicate n 0)
bytes_zeros zero i = omega arith
bytes_zeros (suc n) zero = omega arith
bytes_zeros (suc n) (suc i) = bytes_zeros n i

-- of two lists that begin one list, either begins the other
pub data Begins (p a : List ℕ) : Type 0 where
  -- a begins with p
  whole : (rest : List ℕ) → a ≡ p ++ rest → Begins p a
  -- a is a proper part of the beginning of p
  part : (b : ℕ) (tail : List ℕ) → p ≡ a ++ (b ∷ tail) → Begins p a

pub heads : {x y : ℕ} {xs ys : List ℕ} → ◌≡◌ {A = List ℕ} (x ∷ xs) (y ∷ ys) → x ≡ y
heads h = cc

pub tails : {x y : ℕ} {xs ys : List ℕ} → ◌≡◌ {A = List ℕ} (x ∷ xs) (y ∷ ys) → xs ≡ ys
tails h = cc

pub compared : (p a r z : List ℕ) → p ++ r ≡ a ++ z → Begins p a
compared [] a r z h = whole a refl
compared (x ∷ p) [] r z h = part x p refl
compared (x ∷ p) (y ∷ a) r z h = next (compared p a r z (tails h))
  where
    e : x ≡ y
    e = heads h

    next : Begins p a → Begins (x ∷ p) (y ∷ a)
    next (whole rest q) = whole rest (rw (e, q))
    next (part b tail q) = part b tail (rw (e, q))

-- a payload cut from what follows a head
payload_cut : (b h x rest zs a z : List ℕ) (n : ℕ) → a ++ z ≡ b ++ (h ++ (x ++ rest))
    → b ++ h ++ x ++ take n (rest ++ zs) ++ drop n (rest ++ zs) ≡ a ++ (z ++ zs)
payload_cut b h x rest zs a z n is =
    let t : b ++ h ++ x ++ take n (rest ++ zs) ++ drop n (rest ++ zs) ≡ b ++ (h ++ (x ++ (take n (rest ++ zs) ++ drop n (rest ++ zs)))) = simp append_assoc in
    let u : b ++ (h ++ (x ++ (rest ++ zs))) ≡ b ++ (h ++ (x ++ rest)) ++ zs = simp append_assoc in
    t ∙ ap (λ (l : List ℕ). b ++ (h ++ (x ++ l))) (take-append-drop n (rest ++ zs)) ∙ u ∙ ap (λ (l : List ℕ). l ++ zs) (sym is) ∙ append_assoc a z zs

-- the parts of a head, one after the other
head_parts : {bs r1 r2 : List ℕ} (form : Form) (t f id : ℕ) (h x rest : List ℕ) → bs ≡ basic_bytes form t id ++ r1 → f ≡ t → r1 ≡ h ++ r2 → r2 ≡ x ++ rest
    → bs ≡ basic_bytes form f id ++ (h ++ (x ++ rest))
head_parts form t f id h x rest a e b c = rw (a, e, b, c)

module _ (d : Decoder) where
  -- a chunk that fits, whose bytes and these begin one list
  pub record Found (a : List ℕ) : Type 0 where
    pub chunk : Chunk
    pub fits : ChunkFits d chunk
    pub begins : Begins (chunk_bytes chunk) a

  -- a chunk with these parts, whose payload is as long as it is to be
  module _ (form : Form) (id : ℕ) (h : Header) (x : Extended) (rest : List ℕ) where
    abbrev chunk_of : List ℕ → Chunk
    chunk_of payload = record { form = form; id = id; header = h; extended = x; payload = payload }

    abbrev n : ℕ
    n = left d (chunk_of [])

    abbrev zeros : List ℕ
    zeros = replicate n 0

    taken : length (take n (rest ++ zeros)) ≡ n
    taken = simp (length-take, length-append, length-replicate) (omega arith)

    found : (a z : List ℕ) → FormFits form id → HeaderFits h → ExtendedFits x (carried h (row_of d.rows id))
        → a ++ z ≡ basic_bytes form (format h) id ++ (header_bytes h ++ (extended_bytes x ++ rest))
        → Found a
    unfolding chunk_bytes
    found a z f g e is =
        let p = take n (rest ++ zeros) in
        let joined : chunk_bytes (chunk_of p) ++ drop n (rest ++ zeros) ≡ a ++ (z ++ zeros) =
        payload_cut (basic_bytes form (format h) id) (header_bytes h) (extended_bytes x) rest zeros a z n is
        in
        record {
          chunk = chunk_of p;
          fits = record { head = record { form = f; fields = g; extended = e }; payload = taken };
          begins = compared (chunk_bytes (chunk_of p)) a (drop n (rest ++ zeros)) (z ++ zeros) joined;
        }

  -- any bytes begin with the bytes of a chunk that fits, or are a proper part of the beginning of one
  pub covers : (a : List ℕ) → Bytes a → Found a
  covers a h =
      let z : List ℕ = replicate 18 0 in
      let long : length (a ++ z) ≡ length a + 18 = simp (length-append, length-replicate) in
      let b = basic_of_lem (a ++ z) (bytes_append a z h (bytes_zeros 18)) (omega (arith, long)) in
      let m = header_of b.type b.rest b.small b.bytes (omega (arith, long, b.long)) in
      let x = extended_of_lem (carried m.header (row_of d.rows b.id)) m.rest m.bytes (omega (arith, long, b.long, m.long)) in
      found b.form b.id m.header x.extended x.rest a z b.fits m.fits x.fits
      (head_parts b.form b.type (format m.header) b.id (header_bytes m.header) (extended_bytes x.extended) x.rest b.is m.type_is m.is x.is)

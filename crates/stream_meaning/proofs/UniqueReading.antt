-- Bytes that are chunks in two ways are the same chunks: the first of each is the same, and so are those after it.
use Rattle.std.proofs.Common.{◌≡◌, ℕ, ◌<◌, List, [], ◌∷◌, ◌++◌, length, sym, refl, ap, ◌∙◌, subst, append_assoc, append-nil, arith}
use Rattle.chunk_header.specs.Layout.{Chunk, absent, chunk_bytes, one, type0}
use Rattle.chunk_header.specs.Limits.{initial_size}
use Rattle.decoding.proofs.Taken.{chunk_some}
use Rattle.stream_meaning.specs.Connection.{FitFrom, Item, chunk, means_from, quiet, size, taken}
use Rattle.stream_meaning.specs.Feeding.{BegunFrom, Feeding, ProperPart, Sign, byte, new_size, signs, signs_of}
use Rattle.stream_meaning.specs.Reading.{CameDecides, MeansFed, MeansFedPart, ReadsOneWay}
use Rattle.stream_meaning.specs.Stream.{Fits, Stream}
use Rattle.stream_meaning.proofs.Feeding.{feeding_means}
use Rattle.stream_meaning.proofs.UniqueLayout.{one_chunk}

-- a byte is no size
byte_no_size : {A : Type 0} {x n : ℕ} {xs ys : List Sign} → ◌≡◌ {A = List Sign} (byte x ∷ xs) (new_size n ∷ ys) → A
byte_no_size h = absurd (let z : ◌≡◌ {A = ℕ} 0 1 = cc in omega arith)

none_no_one : {A : Type 0} {B : Type 0} {x : B} {xs : List B} → ◌≡◌ {A = List B} [] (x ∷ xs) → A
none_no_one h = absurd (let z : ◌≡◌ {A = ℕ} 0 1 = cc in omega arith)

byte_of : {x y : ℕ} {xs ys : List Sign} → ◌≡◌ {A = List Sign} (byte x ∷ xs) (byte y ∷ ys) → x ≡ y
byte_of h = cc

size_of : {x y : ℕ} {xs ys : List Sign} → ◌≡◌ {A = List Sign} (new_size x ∷ xs) (new_size y ∷ ys) → x ≡ y
size_of h = cc

later : {x y : Sign} {xs ys : List Sign} → ◌≡◌ {A = List Sign} (x ∷ xs) (y ∷ ys) → xs ≡ ys
later h = cc

-- of two runs of bytes that begin what came, one begins the other
data Either (a b : List ℕ) : Type 0 where
  first_begins : (t : List ℕ) → b ≡ a ++ t → Either a b
  second_begins : (t : List ℕ) → a ≡ b ++ t → Either a b

either : (a b : List ℕ) (r s : List Sign) → signs a ++ r ≡ signs b ++ s → Either a b
either [] b r s h = first_begins b refl
either (x ∷ a) [] r s h = second_begins (x ∷ a) refl
either (x ∷ a) (y ∷ b) r s h = on (either a b r s (later h)) (byte_of h)
  where
    on : Either a b → x ≡ y → Either (x ∷ a) (y ∷ b)
    on (first_begins t q) e = first_begins t (rw (e, q))
    on (second_begins t q) e = second_begins t (rw (e, q))

after_same : (a : List ℕ) (r s : List Sign) → signs a ++ r ≡ signs a ++ s → r ≡ s
after_same [] r s h = h
after_same (x ∷ a) r s h = after_same a r s (later h)

signs_same : (a b : List ℕ) → signs a ≡ signs b → a ≡ b
signs_same [] [] h = refl
signs_same [] (y ∷ b) h = none_no_one h
signs_same (x ∷ a) [] h = none_no_one (sym h)
signs_same (x ∷ a) (y ∷ b) h = let e = byte_of h in let t = signs_same a b (later h) in rw (e, t)

-- bytes only, which begin with some
begun_with : (p a : List ℕ) (s : List Sign) → signs p ≡ signs a ++ s → (t : List ℕ) × (p ≡ a ++ t)
begun_with p [] s h = (p, refl)
begun_with [] (y ∷ a) s h = none_no_one h
begun_with (x ∷ p) (y ∷ a) s h = let e = byte_of h in let t = begun_with p a s (later h) in (t.0, (λ i. e i ∷ t.1 i))

-- a chunk's bytes are some, so no size is where they are
chunk_no_size : {A : Type 0} (c : Chunk) (r s : List Sign) (n : ℕ) → signs (chunk_bytes c) ++ r ≡ new_size n ∷ s → A
chunk_no_size {A} c r s n h = by_bytes (chunk_bytes c) (chunk_some c) h
  where
    by_bytes : (bytes : List ℕ) → 0 < length bytes → signs bytes ++ r ≡ new_size n ∷ s → A
    by_bytes [] some h = absurd (omega (arith, some))
    by_bytes (x ∷ bytes) some h = byte_no_size h

part_no_size : {A : Type 0} (p : List ℕ) (s : List Sign) (n : ℕ) → signs p ≡ new_size n ∷ s → A
part_no_size [] s n h = none_no_one h
part_no_size (x ∷ p) s n h = byte_no_size h

module _ (now : ℕ) (streams : ℕ → Stream) where
  -- two chunks that begin what came are one
  same_chunk : (c c' : Chunk) (r s : List Sign) → Fits now (streams c.id) c → Fits now (streams c'.id) c' → signs (chunk_bytes c) ++ r ≡ signs (chunk_bytes c') ++ s
      → c ≡ c'
  same_chunk c c' r s fits fits' h = by_either (either (chunk_bytes c) (chunk_bytes c') r s h)
    where
      by_either : Either (chunk_bytes c) (chunk_bytes c') → c ≡ c'
      by_either (first_begins t q) = (one_chunk now streams c c' t [] fits fits' (sym q ∙ sym (append-nil (chunk_bytes c')))).0
      by_either (second_begins t q) = (one_chunk now streams c c' [] t fits fits' (append-nil (chunk_bytes c) ∙ q)).0

  -- a proper part of a chunk does not hold a whole one
  part_no_chunk : {A : Type 0} (p : List ℕ) (c : Chunk) (s : List Sign) → ProperPart now streams p → Fits now (streams c.id) c → signs p ≡ signs (chunk_bytes c) ++ s → A
  part_no_chunk p c s b fits h =
      let t = begun_with p (chunk_bytes c) s h in
      let q : chunk_bytes b.next_chunk ++ [] ≡ chunk_bytes c ++ (t.0 ++ (b.missing ∷ b.missing_too)) =
      append-nil (chunk_bytes b.next_chunk)
      ∙ b.is
      ∙ ap (λ (l : List ℕ). l ++ (b.missing ∷ b.missing_too)) t.1
      ∙ append_assoc (chunk_bytes c) t.0 (b.missing ∷ b.missing_too)
      in
      no_more t.0 b.missing b.missing_too (one_chunk now streams b.next_chunk c [] _ b.fits fits q).1
    where
      no_more : {A : Type 0} (t : List ℕ) (x : ℕ) (xs : List ℕ) → [] ≡ t ++ (x ∷ xs) → A
      no_more [] x xs e = none_no_one e
      no_more (y ∷ t) x xs e = none_no_one e

-- items after which parts come
same_items : (items items' : List Item) (part part' : List ℕ) (now : ℕ) (streams : ℕ → Stream) → FitFrom now streams items → FitFrom now streams items'
    → BegunFrom now streams items part
    → BegunFrom now streams items' part'
    → signs_of items ++ signs part ≡ signs_of items' ++ signs part'
    → (items ≡ items') × (part ≡ part')
same_items [] [] part part' now streams f f' b b' h = (refl, signs_same part part' h)
same_items [] (chunk c' ∷ items') part part' now streams f f' b b' h =
    part_no_chunk now streams part c' (signs_of items' ++ signs part') b f'.0 (h ∙ append_assoc (signs (chunk_bytes c')) (signs_of items') (signs part'))
same_items (chunk c ∷ items) [] part part' now streams f f' b b' h =
    part_no_chunk now streams part' c (signs_of items ++ signs part) b' f.0 (sym h ∙ append_assoc (signs (chunk_bytes c)) (signs_of items) (signs part))
same_items [] (size new' ∷ items') part part' now streams f f' b b' h = part_no_size part _ new' h
same_items (size new ∷ items) [] part part' now streams f f' b b' h = part_no_size part' _ new (sym h)
same_items (chunk c ∷ items) (size new' ∷ items') part part' now streams f f' b b' h =
    chunk_no_size c (signs_of items ++ signs part) _ new' (sym (append_assoc (signs (chunk_bytes c)) (signs_of items) (signs part)) ∙ h)
same_items (size new ∷ items) (chunk c' ∷ items') part part' now streams f f' b b' h =
    chunk_no_size c' (signs_of items' ++ signs part') _ new (sym (append_assoc (signs (chunk_bytes c')) (signs_of items') (signs part')) ∙ sym h)
same_items (size new ∷ items) (size new' ∷ items') part part' now streams f f' b b' h =
    let e : new' ≡ new = sym (size_of h) in
    let t = same_items items items' part part' new streams f (subst (λ (n : ℕ). FitFrom n streams items') e f') b (subst (λ (n : ℕ). BegunFrom n streams items' part') e b') (later h) in
    ((λ i. size (size_of h i) ∷ t.0 i), t.1)
same_items (chunk c ∷ items) (chunk c' ∷ items') part part' now streams f f' b b' h =
    let k : signs (chunk_bytes c) ++ (signs_of items ++ signs part) ≡ signs (chunk_bytes c') ++ (signs_of items' ++ signs part') =
    sym (append_assoc (signs (chunk_bytes c)) (signs_of items) (signs part)) ∙ h ∙ append_assoc (signs (chunk_bytes c')) (signs_of items') (signs part')
    in
    let e : c ≡ c' = same_chunk now streams c c' _ _ f.0 f'.0 k in
    let k' : signs (chunk_bytes c) ++ (signs_of items ++ signs part) ≡ signs (chunk_bytes c) ++ (signs_of items' ++ signs part') =
    k ∙ ap (λ (x : Chunk). signs (chunk_bytes x) ++ (signs_of items' ++ signs part')) (sym e)
    in
    let t = same_items items items' part part' now (taken streams c) f.1 (subst (λ (x : Chunk). FitFrom now (taken streams x) items') (sym e) f'.1) b
    (subst (λ (x : Chunk). BegunFrom now (taken streams x) items' part') (sym e) b') (after_same (chunk_bytes c) _ _ k')
    in
    ((λ i. chunk (e i) ∷ t.0 i), t.1)

pub reads_one_way : ReadsOneWay
reads_one_way now streams came a b =
    let t = same_items a.items b.items a.part b.part now streams a.fits b.fits a.begun b.begun (sym a.is ∙ b.is) in
    record { items = t.0; part = t.1; messages = ap (means_from streams) t.0 }

-- so for what came to a decoder
pub came_decides : CameDecides
came_decides came messages messages' d d' buffer buffer' s s' =
    let m = feeding_means came messages d buffer s in
    let m' = feeding_means came messages' d' buffer' s' in
    m.handed_out ∙ (reads_one_way initial_size quiet came m.reading m'.reading).messages ∙ sym m'.handed_out

pub means_fed_part : MeansFedPart
means_fed_part items part messages d buffer fits begun s =
    let m = feeding_means (signs_of items ++ signs part) messages d buffer s in
    m.handed_out
    ∙ (reads_one_way initial_size quiet (signs_of items ++ signs part) m.reading (record { items = items; part = part; is = refl; fits = fits; begun = begun })).messages

-- nothing of a next chunk has come: one always fits, of a message of no bytes
abbrev empty : Chunk
empty = record { form = one; id = 2; header = type0 0 0 0 0; extended = absent; payload = [] }

pub nothing_begun : (now : ℕ) (streams : ℕ → Stream) (items : List Item) → BegunFrom now streams items []
unfolding chunk_bytes
nothing_begun now streams items = record {
  next_chunk = empty;
  fits = record {
    head = record {
      form = (omega arith, omega arith);
      fields = (omega arith, omega arith, omega arith, omega arith);
      extended = λ e. absurd (omega (arith, e));
    };
    payload_of = omega arith;
  };
  missing = 2;
  missing_too = _;
  is = refl;
}

pub means_fed : MeansFed
means_fed items messages d buffer fits s =
    means_fed_part items [] messages d buffer fits (nothing_begun initial_size quiet items) (subst (λ (l : List Sign). Feeding l messages d buffer) (sym (append-nil (signs_of items))) s)

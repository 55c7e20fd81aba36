-- Where each of 9 to 14 is settled, and when: at the end of a chunk's basic header or of its header, in the order of the numbers.
use Rattle.std.proofs.Common.{◌≡◌, ℕ, ◌≢◌, ◌⊎◌, ◌↔◌, List, [], ◌∷◌, sym, refl, inl, inr, ⊎_elim, arith}
use Rattle.chunk_header.specs.Layout.{Chunk, Header, type0, type1, type2, type3, format}
use Rattle.decoding.specs.Decoder.{Decoder}
use Rattle.decoding.specs.Chunk.{basic_refused, header_refused}
use Rattle.stream_meaning.specs.Connection.{Item, streams}
use Rattle.stream_meaning.specs.Feeding.{Sign}
use Rattle.stream_meaning.specs.Said.{said_on}
use Rattle.stream_meaning.specs.Stream.{HeadFits, Message}
use Rattle.stream_meaning.proofs.Whole.{Whole}
use Rattle.refusal_table.specs.Conditions.{Inside, Repeats, basic, by_type, eleven, fourteen, head, head_for12, nine, ten, thirteen, twelve, type}
use Rattle.refusal_table.specs.Terms.{OneOf, ◌unless◌}
use Rattle.refusal_table.proofs.Chunks.{basic_0, basic_9, basic_10, basic_11, basic_12, basic_others, header_12, header_13, header_14, header_others}
use Rattle.refusal_table.proofs.Deciding.{listed}

-- a chunk is refused with a number at the end of a part of it
pub data At (d : Decoder) (c : Chunk) (k : ℕ) : List ℕ → Type 0 where
  by_basic : basic_refused d c ≡ k → At d c k (basic c)
  by_head : basic_refused d c ≡ 0 → header_refused d c ≡ k → At d c k (head c)

-- a decoder between chunks, whatever has come to it
pub record Between : Type 0 where
  pub decoder : Decoder
  pub buffer : List ℕ
  pub came : List Sign
  pub messages : List Message
  pub whole : Whole came messages decoder buffer

-- something of every chunk that can come to one
abbrev Ever : (Decoder → List Item → Chunk → Type 0) → Type 0
Ever P = (w : Between) (c : Chunk) → HeadFits (streams w.whole.items c.id) c → P w.decoder w.whole.items c

-- it is refused exactly where something holds, and at the end of that part
pub record Settles (part : Chunk → List ℕ) (k : ℕ) (Holds : (room : ℕ) → List Item → Chunk → Type 0) : Type 0 where
  pub part_is : (c : Chunk) → (part c ≡ basic c) ⊎ (part c ≡ head c)
  pub tells : Ever (λ d items c. (p : List ℕ) → At d c k p → Holds d.setting.room items c × (p ≡ part c))
  pub settles : Ever (λ d items c. Holds d.setting.room items c → At d c k (part c))

-- a number that only a basic header gives
module _ (k : ℕ) (not_later : ¬ OneOf k (12 ∷ 13 ∷ 14 ∷ 0 ∷ [])) (Holds : List Item → Chunk → Type 0)
    (is : Ever (λ d items c. basic_refused d c ≡ k ↔ Holds items c)) where
  tells_basic : Ever (λ d items c. (p : List ℕ) → At d c k p → Holds items c × (p ≡ basic c))
  tells_basic w c fits p (by_basic e) = ((is w c fits).0 e, refl)
  tells_basic w c fits p (by_head z e) = absurd (not_later (header_others w.whole c fits z k e))

  settles_basic : Settles basic k (λ room. Holds)
  settles_basic = record { part_is = λ c. inl refl; tells = tells_basic; settles = λ w c fits h. by_basic ((is w c fits).1 h) }

pub settles_9 : Settles basic 9 (λ room items c. nine items c)
settles_9 = settles_basic 9 ((listed 9 (12 ∷ 13 ∷ 14 ∷ 0 ∷ [])).no refl) nine (λ w. basic_9 w.whole)

pub settles_10 : Settles basic 10 (λ room items c. ten items c unless nine items c)
settles_10 = settles_basic 10 ((listed 10 (12 ∷ 13 ∷ 14 ∷ 0 ∷ [])).no refl) (λ items c. ten items c unless nine items c) (λ w. basic_10 w.whole)

pub settles_11 : Settles basic 11 (λ room items c. eleven items c unless (nine items c ⊎ ten items c))
settles_11 = settles_basic 11 ((listed 11 (12 ∷ 13 ∷ 14 ∷ 0 ∷ [])).no refl) (λ items c. eleven items c unless (nine items c ⊎ ten items c)) (λ w. basic_11 w.whole)

-- 12 has its place by the chunk's type
at_type_0 : (h : Header) (short long : List ℕ) → format h ≡ 0 → by_type h short long ≡ long
at_type_0 (type0 time length type stream) short long e = refl
at_type_0 (type1 delta length type) short long e = absurd (omega arith)
at_type_0 (type2 delta) short long e = absurd (omega arith)
at_type_0 type3 short long e = absurd (omega arith)

at_type_1_2 : (h : Header) (short long : List ℕ) → OneOf (format h) (1 ∷ 2 ∷ []) → by_type h short long ≡ short
at_type_1_2 (type0 time length type stream) short long o = absurd ((listed 0 (1 ∷ 2 ∷ [])).no refl o)
at_type_1_2 (type1 delta length type) short long o = refl
at_type_1_2 (type2 delta) short long o = refl
at_type_1_2 type3 short long o = refl

by_type_lem : (h : Header) (short long : List ℕ) → (by_type h short long ≡ short) ⊎ (by_type h short long ≡ long)
by_type_lem (type0 time length type stream) short long = inr refl
by_type_lem (type1 delta length type) short long = inl refl
by_type_lem (type2 delta) short long = inl refl
by_type_lem type3 short long = inl refl

abbrev Before12 : List Item → Chunk → Type 0
Before12 items c = nine items c ⊎ ten items c ⊎ eleven items c

tells_12 : Ever (λ d items c. (p : List ℕ) → At d c 12 p → (twelve items c unless Before12 items c) × (p ≡ head_for12 c))
tells_12 w c fits p (by_basic e) =
    let h = (basic_12 w.whole c fits).0 e in
    let i = h.0.0 in
    (((i.0, (i.1, inl h.0.1)), h.1), sym (at_type_1_2 c.header (basic c) (head c) h.0.1))
tells_12 w c fits p (by_head z e) =
    let h = (header_12 w.whole c fits z).0 e in
    (((h.0, (h.1.0, inr h.1.1)), ((basic_0 w.whole c fits).0 z).1), sym (at_type_0 c.header (basic c) (head c) h.1.1.0))

gives_12 : Ever (λ d items c. twelve items c unless Before12 items c → At d c 12 (head_for12 c))
gives_12 w c fits h = ⊎_elim at_once late h.0.1.1
  where
    at_once : OneOf (type c) (1 ∷ 2 ∷ []) → At w.decoder c 12 (head_for12 c)
    at_once o = rw (at_type_1_2 c.header (basic c) (head c) o) (by_basic ((basic_12 w.whole c fits).1 (((h.0.0, h.0.1.0), o), h.1)))

    late : (type c ≡ 0) × (¬ Repeats c.header c.extended (said_on (streams w.whole.items h.0.0))) → At w.decoder c 12 (head_for12 c)
    late l =
        let z = (basic_0 w.whole c fits).1 (λ m. (listed 0 (1 ∷ 2 ∷ [])).no refl (rw l.0 at m.1), h.1) in
        rw (at_type_0 c.header (basic c) (head c) l.0) (by_head z ((header_12 w.whole c fits z).1 (h.0.0, (h.0.1.0, l))))

pub settles_12 : Settles head_for12 12 (λ room items c. twelve items c unless (nine items c ⊎ ten items c ⊎ eleven items c))
settles_12 = record { part_is = λ c. by_type_lem c.header (basic c) (head c); tells = tells_12; settles = gives_12 }

-- outside a message 11 and 12 do not hold, so a chunk that its basic header passes is 13, or else 14
passes : Ever (λ d items c. (¬ Inside items) → (¬ nine items c) → (¬ ten items c) → basic_refused d c ≡ 0)
passes w c fits outside n t = (basic_0 w.whole c fits).1 (λ h. outside h.0, ⊎_elim n (⊎_elim t (λ h. outside (h.0, h.1.0))))

none_of_four : Ever (λ d items c. (¬ Inside items) → basic_refused d c ≡ 0 → ¬ (nine items c ⊎ ten items c ⊎ eleven items c ⊎ twelve items c))
none_of_four w c fits outside z =
    let n = ((basic_0 w.whole c fits).0 z).1 in
    ⊎_elim (λ h. n (inl h)) (⊎_elim (λ h. n (inr (inl h))) (⊎_elim (λ h. outside (h.0, h.1.0)) (λ h. outside (h.0, h.1.0))))

-- a number that only a header gives
module _ (k : ℕ) (not_at_once : ¬ OneOf k (9 ∷ 10 ∷ 11 ∷ 12 ∷ 0 ∷ [])) (Holds : (room : ℕ) → List Item → Chunk → Type 0)
    (passed : Ever (λ d items c. Holds d.setting.room items c → basic_refused d c ≡ 0))
    (is : Ever (λ d items c. basic_refused d c ≡ 0 → header_refused d c ≡ k ↔ Holds d.setting.room items c)) where
  tells_head : Ever (λ d items c. (p : List ℕ) → At d c k p → Holds d.setting.room items c × (p ≡ head c))
  tells_head w c fits p (by_basic e) = absurd (not_at_once (basic_others w.whole c fits k e))
  tells_head w c fits p (by_head z e) = ((is w c fits z).0 e, refl)

  settles_head : Settles head k Holds
  settles_head = record { part_is = λ c. inr refl; tells = tells_head; settles = λ w c fits h. let z = passed w c fits h in by_head z ((is w c fits z).1 h) }

pub settles_13 : Settles head 13 (λ room items c. thirteen items c unless (nine items c ⊎ ten items c ⊎ eleven items c ⊎ twelve items c))
settles_13 =
    settles_head 13 ((listed 13 (9 ∷ 10 ∷ 11 ∷ 12 ∷ 0 ∷ [])).no refl) _
    (λ w c fits h. passes w c fits h.0.0 (λ n. h.1 (inl n)) (λ t. h.1 (inr (inl t))))
    (λ w c fits z. let i = header_13 w.whole c fits z in (λ e. let h = i.0 e in (h, none_of_four w c fits h.0 z), λ h. i.1 h.0))

pub settles_14 : Settles head 14 (λ room items c. fourteen items c room unless (nine items c ⊎ ten items c ⊎ eleven items c ⊎ twelve items c ⊎ thirteen items c))
settles_14 =
    settles_head 14 ((listed 14 (9 ∷ 10 ∷ 11 ∷ 12 ∷ 0 ∷ [])).no refl) _
    (λ w c fits h. passes w c fits h.0.0 (λ n. h.1 (inl n)) (λ t. h.1 (inr (inl t))))
    (λ w c fits z.
    let i = header_14 w.whole c fits z in (
      λ e.
          let h = i.0 e in
          let n = none_of_four w c fits h.0.0 z in
          (h.0, ⊎_elim (λ x. n (inl x)) (⊎_elim (λ x. n (inr (inl x))) (⊎_elim (λ x. n (inr (inr (inl x)))) (⊎_elim (λ x. n (inr (inr (inr x)))) h.1)))),
      λ h. i.1 (h.0, λ t. h.1 (inr (inr (inr (inr t))))),
    ))

-- a chunk is refused with one of these numbers
pub numbers : Ever (λ d items c. (k : ℕ) (p : List ℕ) → k ≢ 0 → At d c k p → OneOf k (9 ∷ 10 ∷ 11 ∷ 12 ∷ 13 ∷ 14 ∷ []))
numbers w c fits k p n (by_basic e) =
    ⊎_elim inl (λ o. inr (⊎_elim inl (λ o. inr (⊎_elim inl (λ o. inr (⊎_elim inl (⊎_elim (λ z. absurd (n z)) (λ x. absurd x)) o)) o)) o)) (basic_others w.whole c fits k e)
numbers w c fits k p n (by_head z e) =
    inr (inr (inr (⊎_elim inl (λ o. inr (⊎_elim inl (λ o. inr (⊎_elim inl (⊎_elim (λ z. absurd (n z)) (λ x. absurd x)) o)) o)) (header_others w.whole c fits z k e))))

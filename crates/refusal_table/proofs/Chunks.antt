-- What the basic header and the header of a chunk settle: the tests of the definition decide the conditions of rows 9 to 14, in their order.
use Rattle.std.proofs.Common.{◌≡◌, ℕ, ◌<◌, Bool, true, false, cond, not, ◌&&◌, eqb, ltb, ◌≢◌, ◌⊎◌, ◌↔◌, List, [], ◌∷◌, sym, refl, ap, ◌∙◌, subst, inl, inr, ⊎_elim, arith, eq-eqb, ne_eqb}
use Rattle.fields.proofs.Tests.{Decides, both, both_then, clash, equal, in_words, less, not_decides, not_not, tested}
use Rattle.chunk_header.specs.Layout.{Chunk, Header, type0, type1, type2, type3, Extended, absent, present, format}
use Rattle.chunk_header.specs.Limits.{max_field}
use Rattle.chunk_header.specs.Table.{is_empty, is_full}
use Rattle.chunk_meaning.specs.Stored.{Row}
use Rattle.chunk_meaning.specs.Meaning.{basic_refusal, first_refusal, later_refusal, repeats}
use Rattle.byte_machine.specs.Rows.{find, free, row_count}
use Rattle.decoding.specs.Decoder.{Decoder}
use Rattle.decoding.specs.Chunk.{ExtendedFits, basic_refused, carried, format_for, header, header_refused, inside, row, says}
use Rattle.decoding.proofs.Taken.{id_some}
use Rattle.stream_meaning.specs.Connection.{streams}
use Rattle.stream_meaning.specs.Feeding.{Sign}
use Rattle.stream_meaning.specs.Said.{said_on}
use Rattle.stream_meaning.specs.Stream.{HeadFits, Message, Said, Stream, number, saying}
use Rattle.stream_meaning.specs.View.{said_in, viewed}
use Rattle.stream_meaning.proofs.Seeing.{before_is, head_fits, number_is, saying_is}
use Rattle.stream_meaning.proofs.Whole.{Whole}
use Rattle.refusal_table.specs.Conditions.{Below, Inside, Repeats, Unfinished, eleven, fourteen, nine, ten, thirteen, type}
use Rattle.refusal_table.specs.Terms.{OneOf, ◌unless◌}
use Rattle.refusal_table.proofs.Deciding.{Among, Gives, here, joined, later, listed, not_given, then_one}
use Rattle.refusal_table.proofs.Seen.{all_used, has_row, inside as is_inside, unfinished_is}

-- the types of a chunk
type_0 : (h : Header) → Decides (is_full (format_for h)) (format h ≡ 0)
type_0 (type0 time length type stream) = equal 0 0
type_0 (type1 delta length type) = equal 1 0
type_0 (type2 delta) = equal 2 0
type_0 type3 = equal 3 0

type_1_2_3 : (h : Header) → Decides (not (is_full (format_for h))) (OneOf (format h) (1 ∷ 2 ∷ 3 ∷ []))
type_1_2_3 (type0 time length type stream) = listed 0 (1 ∷ 2 ∷ 3 ∷ [])
type_1_2_3 (type1 delta length type) = listed 1 (1 ∷ 2 ∷ 3 ∷ [])
type_1_2_3 (type2 delta) = listed 2 (1 ∷ 2 ∷ 3 ∷ [])
type_1_2_3 type3 = listed 3 (1 ∷ 2 ∷ 3 ∷ [])

type_1_2 : (h : Header) → Decides (not (is_full (format_for h)) && not (is_empty (format_for h))) (OneOf (format h) (1 ∷ 2 ∷ []))
type_1_2 (type0 time length type stream) = listed 0 (1 ∷ 2 ∷ [])
type_1_2 (type1 delta length type) = listed 1 (1 ∷ 2 ∷ [])
type_1_2 (type2 delta) = listed 2 (1 ∷ 2 ∷ [])
type_1_2 type3 = listed 3 (1 ∷ 2 ∷ [])

-- a chunk that can come to a decoder between chunks
module _ {came : List Sign} {messages : List Message} {d : Decoder} {buffer : List ℕ} (w : Whole came messages d buffer) (c : Chunk)
    (fits : HeadFits (streams w.items c.id) c) where
  n : c.id ≢ 0
  n = id_some c.form c.id fits.form

  within : Decides (inside d c) (Inside w.items)
  within = is_inside w

  -- at the end of the basic header: each test decides its row
  abbrev test_9 : Bool
  test_9 = not (inside d c) && (not (is_full (format_for c.header)) && not (ltb (find d.rows c.id) row_count))

  abbrev test_10 : Bool
  test_10 = is_full (format_for c.header) && (not (ltb (find d.rows c.id) row_count) && not (ltb (free d.rows) row_count))

  abbrev test_11 : Bool
  test_11 = inside d c && not (eqb d.reader.message.id c.id)

  abbrev test_12 : Bool
  test_12 = inside d c && (not (is_full (format_for c.header)) && not (is_empty (format_for c.header)))

  decides_9 : Decides test_9 (nine w.items c)
  decides_9 =
      in_words (λ h. (h.1.0, h.0, h.1.1), λ h. (h.1, (h.0, h.2)))
      (both (not_decides within) (both (type_1_2_3 c.header) (not_decides (has_row w c.id n))))

  decides_10 : Decides test_10 (ten w.items c)
  decides_10 =
      in_words (λ h. (h.0, h.1.0, h.1.1), λ h. (h.0, (h.1, h.2)))
      (both (type_0 c.header) (both (not_decides (has_row w c.id n)) (all_used w)))

  decides_11 : Decides test_11 (eleven w.items c)
  decides_11 = in_words (to, from) (both within (not_decides (equal d.reader.message.id c.id)))
    where
      to : Inside w.items × (d.reader.message.id ≢ c.id) → eleven w.items c
      to h = let u = unfinished_is w h.0.0 h.0.1 in (h.0.0, (h.0.1, λ e. h.1 (u.0 ∙ sym e)))

      from : eleven w.items c → Inside w.items × (d.reader.message.id ≢ c.id)
      from h = let u = unfinished_is w h.0 h.1.0 in ((h.0, h.1.0), λ e. h.1.1 (sym e ∙ u.0))

  -- 12 as far as the basic header settles it
  abbrev twelve_at_once : Type 0
  twelve_at_once = Inside w.items × OneOf (type c) (1 ∷ 2 ∷ [])

  -- and as the header does
  abbrev pub twelve_late : Type 0
  twelve_late = (id : ℕ) × (Unfinished w.items id × ((type c ≡ 0) × (¬ Repeats c.header c.extended (said_on (streams w.items id)))))

  decides_12 : Decides test_12 twelve_at_once
  decides_12 = both within (type_1_2 c.header)

-- each number is given by the first test that holds; 0 where none does
abbrev Is : ℕ → ℕ → Type 0
Is k n = n ≡ k

gives : (n : ℕ) → Gives Is (λ a. Unit {0}) n n
gives n = record { is = refl; only = λ m h. sym h; left = tt }

passed : (n : ℕ) → Among Is (λ a. Unit {0}) (n ∷ []) n
passed n = record { no_other = λ m h. inl (sym h); left = λ m h. tt }

-- where the one test fails nothing is given
nothing : {P : Type 0} {t : Bool} {n : ℕ} → n ≢ 0 → Decides t P → cond t n 0 ≡ 0 ↔ (¬ P)
nothing {t = true} z p = (λ e. absurd (z e), λ n. absurd (n (p.yes refl)))
nothing {t = false} z p = (λ e. p.no refl, λ n. refl)

module _ {came : List Sign} {messages : List Message} {d : Decoder} {buffer : List ℕ} (w : Whole came messages d buffer) (c : Chunk)
    (fits : HeadFits (streams w.items c.id) c) where
  from_12 : Among Is (λ a. Unit {0}) (12 ∷ 0 ∷ []) (cond (test_12 w c fits) 12 0)
  from_12 = then_one (test_12 w c fits) (gives 12) (passed 0)

  from_11 : Among Is (λ a. Unit {0}) (11 ∷ 12 ∷ 0 ∷ []) (cond (test_11 w c fits) 11 (cond (test_12 w c fits) 12 0))
  from_11 = then_one (test_11 w c fits) (gives 11) from_12

  pub basic_9 : basic_refused d c ≡ 9 ↔ nine w.items c
  unfolding basic_refusal
  basic_9 = here (gives 9) (decides_9 w c fits) (then_one (test_10 w c fits) (gives 10) from_11) refl

  pub basic_10 : basic_refused d c ≡ 10 ↔ (ten w.items c unless nine w.items c)
  unfolding basic_refusal
  basic_10 = later (gives 9) (decides_9 w c fits) refl (here (gives 10) (decides_10 w c fits) from_11 refl)

  pub basic_11 : basic_refused d c ≡ 11 ↔ (eleven w.items c unless (nine w.items c ⊎ ten w.items c))
  unfolding basic_refusal
  basic_11 = joined (later (gives 9) (decides_9 w c fits) refl (later (gives 10) (decides_10 w c fits) refl (here (gives 11) (decides_11 w c fits) from_12 refl)))

  -- what is left where none of these three holds
  after_three : {k : ℕ} {Q : Type 0} → eqb k 9 ≡ false → eqb k 10 ≡ false → eqb k 11 ≡ false → cond (test_12 w c fits) 12 0 ≡ k ↔ Q
      → basic_refused d c ≡ k ↔ (Q unless (nine w.items c ⊎ ten w.items c ⊎ eleven w.items c))
  unfolding basic_refusal
  after_three n9 n10 n11 h = joined (later (gives 9) (decides_9 w c fits) n9 (joined (later (gives 10) (decides_10 w c fits) n10 (later (gives 11) (decides_11 w c fits) n11 h))))

  pub basic_12 : basic_refused d c ≡ 12 ↔ (twelve_at_once w c fits unless (nine w.items c ⊎ ten w.items c ⊎ eleven w.items c))
  basic_12 = after_three refl refl refl (here (gives 12) (decides_12 w c fits) (passed 0) refl)

  pub basic_0 : basic_refused d c ≡ 0 ↔ ((¬ twelve_at_once w c fits) unless (nine w.items c ⊎ ten w.items c ⊎ eleven w.items c))
  basic_0 = after_three refl refl refl (nothing (omega arith) (decides_12 w c fits))

  pub basic_others : (k : ℕ) → basic_refused d c ≡ k → OneOf k (9 ∷ 10 ∷ 11 ∷ 12 ∷ 0 ∷ [])
  unfolding basic_refusal
  basic_others = (then_one (test_9 w c fits) (gives 9) (then_one (test_10 w c fits) (gives 10) from_11)).no_other

-- what a row holds, and what is said on its stream
repeated : (h : Header) (x : Extended) (r : Row) → format h ≡ 0 → Decides (repeats r (carried h r) (says x (carried h r))) (Repeats h x (said_in r))
repeated (type0 time length type stream) x r e =
    in_words (λ h. (h.0, h.1.0, h.1.1.0, t ∙ h.1.1.1), λ h. (h.0, (h.1, (h.2, sym t ∙ h.3))))
    (both (equal length r.message_length)
    (both (equal type r.message_type_id) (both (equal stream r.message_stream_id) (equal (says x (carried (type0 time length type stream) r)) r.timestamp.value))))
  where
    t : number x time ≡ says x (carried (type0 time length type stream) r)
    t = number_is x (carried (type0 time length type stream) r)
repeated (type1 delta length type) x r e = absurd (omega arith)
repeated (type2 delta) x r e = absurd (omega arith)
repeated type3 x r e = absurd (omega arith)

-- an extended time is there exactly where the field is 16777215
below : (x : Extended) (r : Row) → ExtendedFits x r → Decides (eqb r.timestamp_field max_field && ltb (says x r) max_field) (Below x)
below absent r fits = rw (ne_eqb r.timestamp_field max_field fits) (record { yes = λ e. clash refl e; no = λ e b. b })
below (present time) r fits = rw (eq-eqb r.timestamp_field max_field fits.0) (less time max_field)

-- the end of the header, of a chunk that its basic header does not refuse
module _ {came : List Sign} {messages : List Message} {d : Decoder} {buffer : List ℕ} (w : Whole came messages d buffer) (c : Chunk)
    (fits : HeadFits (streams w.items c.id) c) (passes : basic_refused d c ≡ 0) where
  abbrev none_before : ¬ (nine w.items c ⊎ ten w.items c ⊎ eleven w.items c)
  none_before = ((basic_0 w c fits).0 passes).1

  -- what the decoder sees of its stream
  sees : viewed d buffer c.id ≡ streams w.items c.id
  sees = w.sees c.id (n w c fits)

  own : (id : ℕ) → Unfinished w.items id → c.id ≡ id
  own id u = not_not (equal c.id id) (λ n. none_before (inr (inr (id, (u, n)))))

  abbrev test_late : Bool
  test_late = is_full (format_for c.header) && not (repeats (row d c) (header d c) (says c.extended (header d c)))

  abbrev test_13 : Bool
  test_13 = not (is_full (format_for c.header)) && (eqb (header d c).timestamp_field max_field && ltb (says c.extended (header d c)) max_field)

  abbrev test_14 : Bool
  test_14 = ltb d.setting.room (header d c).message_length

  said_before : said_on (streams w.items c.id) ≡ said_in (row d c)
  said_before = ap said_on (sym sees) ∙ before_is d buffer c

  decides_late : (id : ℕ) → Unfinished w.items id
      → Decides test_late ((type c ≡ 0) × (¬ Repeats c.header c.extended (said_on (streams w.items id))))
  decides_late id u =
      let e : said_in (row d c) ≡ said_on (streams w.items id) = sym said_before ∙ ap (λ (i : ℕ). said_on (streams w.items i)) (own id u) in
      both_then (type_0 c.header)
      (λ t. not_decides (subst (λ (x : Said). Decides (repeats (row d c) (header d c) (says c.extended (header d c))) (Repeats c.header c.extended x)) e
      (repeated c.header c.extended (row d c) t)))

  decides_13 : Decides test_13 (OneOf (type c) (1 ∷ 2 ∷ 3 ∷ []) × Below c.extended)
  decides_13 =
      both (type_1_2_3 c.header) (below c.extended (header d c) (head_fits d buffer c (subst (λ (s : Stream). HeadFits s c) (sym sees) fits)).extended)

  decides_14 : Decides test_14 (d.setting.room < (saying (streams w.items c.id) c).length)
  decides_14 =
      let e : (header d c).message_length ≡ (saying (streams w.items c.id) c).length =
      ap (λ (x : Said). x.length) (sym (saying_is d buffer c)) ∙ ap (λ (s : Stream). (saying s c).length) sees
      in
      subst (λ (l : ℕ). Decides test_14 (d.setting.room < l)) e (less d.setting.room (header d c).message_length)

  inside_only : Among Is (λ a. Unit {0}) (12 ∷ 0 ∷ []) (cond test_late 12 0)
  inside_only = then_one test_late (gives 12) (passed 0)

  from_14 : Among Is (λ a. Unit {0}) (14 ∷ 0 ∷ []) (cond test_14 14 0)
  from_14 = then_one test_14 (gives 14) (passed 0)

  outside_only : Among Is (λ a. Unit {0}) (13 ∷ 14 ∷ 0 ∷ []) (cond test_13 13 (cond test_14 14 0))
  outside_only = then_one test_13 (gives 13) from_14

  pub header_12 : header_refused d c ≡ 12 ↔ twelve_late w c fits
  unfolding later_refusal first_refusal
  header_12 =
      tested (λ (n : ℕ). n ≡ 12 ↔ twelve_late w c fits) (within w c fits)
      (λ i. let x = here (gives 12) (decides_late i.0 i.1) (passed 0) refl in
      (λ e. (i.0, (i.1, x.0 e)), λ h. (here (gives 12) (decides_late h.0 h.1.0) (passed 0) refl).1 h.1.1))
      (λ o. (λ e. absurd (not_given refl outside_only e), λ h. absurd (o (h.0, h.1.0))))

  pub header_13 : header_refused d c ≡ 13 ↔ thirteen w.items c
  unfolding later_refusal first_refusal
  header_13 =
      tested (λ (n : ℕ). n ≡ 13 ↔ thirteen w.items c) (within w c fits) (λ i. (λ e. absurd (not_given refl inside_only e), λ h. absurd (h.0 i)))
      (λ o. let x = here (gives 13) decides_13 from_14 refl in (λ e. let y = x.0 e in (o, y.0, y.1), λ h. x.1 (h.1, h.2)))

  pub header_14 : header_refused d c ≡ 14 ↔ (fourteen w.items c d.setting.room unless thirteen w.items c)
  unfolding later_refusal first_refusal
  header_14 =
      tested (λ (n : ℕ). n ≡ 14 ↔ (fourteen w.items c d.setting.room unless thirteen w.items c)) (within w c fits) (λ i. (λ e. absurd (not_given refl inside_only e), λ h. absurd (h.0.0 i)))
      (λ o.
      let x = later (gives 13) decides_13 refl (here (gives 14) decides_14 (passed 0) refl) in
      (λ e. let y = x.0 e in ((o, y.0), λ t. y.1 (t.1, t.2)), λ h. x.1 (h.0.1, λ t. h.1 (o, t.0, t.1))))

  pub header_others : (k : ℕ) → header_refused d c ≡ k → OneOf k (12 ∷ 13 ∷ 14 ∷ 0 ∷ [])
  unfolding later_refusal first_refusal
  header_others k =
      tested (λ (n : ℕ). n ≡ k → OneOf k (12 ∷ 13 ∷ 14 ∷ 0 ∷ [])) (within w c fits)
      (λ i e. ⊎_elim inl (λ o. inr (inr (inr o))) (inside_only.no_other k e))
      (λ o e. inr (outside_only.no_other k e))

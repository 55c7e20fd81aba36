-- What a decoder's tests say of the chunks that have come to it: they decide whether a stream has a row, 64 rows are used, a message is unfinished.
use Rattle.std.proofs.Common.{◌≡◌, ℕ, ◌<◌, ◌≤◌, Bool, true, false, cond, not, eqb, ltb, ◌≢◌, ◌↔◌, List, [], ◌∷◌, length, sym, refl, ap, ◌∙◌, arith, eq-eqb, ne_eqb}
use mathlib.Core.Option.{none, some, map, some-ne-none}
use Rattle.fields.proofs.Tests.{Decides, equal, in_words, less, not_decides}
use Rattle.byte_machine.specs.Rows.{find, free, row_at, row_count}
use Rattle.byte_machine.proofs.Putting.{free_after, free_none}
use Rattle.decoding.specs.Decoder.{Decoder}
use Rattle.decoding.proofs.Taken.{id_some}
use Rattle.stream_meaning.specs.Connection.{FitFrom, Item, chunk, opened, quiet, size, streams, streams_from, taken}
use Rattle.stream_meaning.specs.Feeding.{Sign}
use Rattle.stream_meaning.specs.Stream.{Message, Stream, takes}
use Rattle.stream_meaning.specs.View.{said_in}
use Rattle.stream_meaning.proofs.Saying.{stores_last}
use Rattle.stream_meaning.proofs.Whole.{Whole}
use Rattle.refusal_table.specs.Conditions.{AllUsed, HasRow, Inside, Unfinished}

-- nothing comes on a stream of id 0, as no form says it
silent_0 : (items : List Item) (now : ℕ) (streams : ℕ → Stream) → FitFrom now streams items → streams_from streams items 0 ≡ streams 0
silent_0 [] now streams f = refl
silent_0 (size new ∷ items) now streams f = silent_0 items new streams f
silent_0 (chunk c ∷ items) now streams f =
    silent_0 items now (taken streams c) f.1
    ∙ ap (λ (t : Bool). cond t (takes (streams c.id) c) (streams 0)) (ne_eqb 0 c.id (λ e. id_some c.form c.id f.0.head.form (sym e)))

module _ {came : List Sign} {messages : List Message} {d : Decoder} {buffer : List ℕ} (w : Whole came messages d buffer) where
  -- a stream has a row where something is stored of it, and that is where a chunk of it has come
  row_stored : (id : ℕ) → id ≢ 0 → find d.rows id < row_count ↔ ((streams w.items id).stored ≢ none)
  row_stored id n = by_row (ltb (find d.rows id) row_count) (less (find d.rows id) row_count) (ap (λ (s : Stream). s.stored) (sym (w.sees id n)))
    where
      by_row : (t : Bool) → Decides t (find d.rows id < row_count)
          → (streams w.items id).stored ≡ map said_in (cond t (some (row_at d.rows (find d.rows id))) none)
          → find d.rows id < row_count ↔ ((streams w.items id).stored ≢ none)
      by_row true k e = (λ h z. some-ne-none _ (sym e ∙ z), λ h. k.yes refl)
      by_row false k e = (λ h. absurd (k.no refl h), λ h. absurd (h e))

  pub has_row : (id : ℕ) → id ≢ 0 → Decides (ltb (find d.rows id) row_count) (HasRow w.items id)
  has_row id n =
      let s = (stores_last w.items id).1.there in
      let r = row_stored id n in
      in_words (λ h. s.0 (r.0 h), λ h. r.1 (s.1 h)) (less (find d.rows id) row_count)

  pub all_used : Decides (not (ltb (free d.rows) row_count)) (AllUsed w.items)
  all_used = in_words (to, from) (not_decides (less (free d.rows) row_count))
    where
      to : ¬ (free d.rows < row_count) → AllUsed w.items
      to n = by_length (ltb (length opened_ids) 64) (less (length opened_ids) 64)
        where
          opened_ids : List ℕ
          opened_ids = opened w.items

          by_length : (t : Bool) → Decides t (length opened_ids < 64) → 64 ≤ length opened_ids
          by_length true k = let l = k.yes refl in absurd (n (rw (free_after w.ids l) l))
          by_length false k = let l = k.no refl in omega (arith, l)

      from : AllUsed w.items → ¬ (free d.rows < row_count)
      from u h = let l = free_none w.ids h in omega (arith, l, u)

  -- the unfinished message is that of the decoder's message in hand
  pub unfinished_is : (id : ℕ) → Unfinished w.items id → (d.reader.message.id ≡ id) × (id ≢ 0)
  unfinished_is id u = by_id (eqb id 0) (equal id 0) (eqb d.reader.message.id id) (equal d.reader.message.id id)
    where
      by_id : (t : Bool) → Decides t (id ≡ 0) → (v : Bool) → Decides v (d.reader.message.id ≡ id) → (d.reader.message.id ≡ id) × (id ≢ 0)
      by_id true k v q = absurd (u (rw (k.yes refl) (ap (λ (s : Stream). s.come) (silent_0 w.items _ quiet w.fits))))
      by_id false k true q = (q.yes refl, k.no refl)
      by_id false k false q =
          absurd (u (ap (λ (s : Stream). s.come) (sym (w.sees id (k.no refl))) ∙ (rw (ne_eqb d.reader.message.id id (q.no refl)))))

  pub message_unfinished : d.reader.message.id ≢ 0 → Unfinished w.items d.reader.message.id
  message_unfinished m e =
      let z = ap (λ (s : Stream). s.come) (w.sees d.reader.message.id m) ∙ e in
      some-ne-none _ ((rw (eq-eqb d.reader.message.id d.reader.message.id refl) at z))

  pub inside : Decides (not (eqb d.reader.message.id 0)) (Inside w.items)
  inside =
      in_words (λ m. (d.reader.message.id, message_unfinished m), λ i e. let u = unfinished_is i.0 i.1 in u.1 (sym u.0 ∙ e)) (not_decides (equal d.reader.message.id 0))

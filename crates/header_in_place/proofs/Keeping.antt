-- What is stored after a step is what the definition leaves: by cases on what the step settled.
use Rattle.std.proofs.Common.{◌≡◌, refl, ap, subst, ℕ, false, List, [], Ok, Err}
use Rattle.byte_machine.specs.Reader.{Event, Go, Chunk, Message, Refuse, Reader, Stepped}
use Rattle.byte_machine.specs.Rows.{put_at}
use Rattle.decoding.specs.Call.{after, closes, is_refusal}
use Rattle.decoding.specs.Decoder.{Decoder}
use Rattle.held.specs.declared.done.ChunkRefusal.{ChunkRefusal}
use Rattle.held.specs.declared.done.Done.{Done}
use Rattle.held.specs.declared.numbers.Held.{Held}
use Rattle.held.specs.Done.{Beside, done_of, meant_by, refusal_number, shut_with, told}
use Rattle.held.specs.Numbers.{decode, encode, held_in, meant, numbers_of, row_from, setting_in}
use Rattle.header_in_place.specs.Byte.{Left}

abbrev step : Reader → Event → ℕ → Stepped
step r e p = record { reader = r; event = e; place = p }

module _ (h : Held) (rows : List ℕ) (r : Reader) where
  -- a refusal keeps the reader and the table
  left_refused : (e : ChunkRefusal) (settled : Event) (p : ℕ) → told (Err e) ≡ done_of h (step r settled p)
      → Left (Err e) (encode (shut_with (meant h []) (refusal_number e))) rows (meant h rows) (step r settled p)
  unfolding after
  left_refused e Go p q = absurd cc
  left_refused e Chunk p q = absurd cc
  left_refused e Message p q = absurd cc
  left_refused e (Refuse k) p q = let same : refusal_number e ≡ k = cc in rw same (record { event_is = ap Refuse same; numbers = refl; table = refl })

  module _ (d : Done) where
    -- any other step is stored as it is
    kept_at : (settled : Event) (p : ℕ) → meant_by d ≡ record { setting = setting_in h; closed = h.closed; step = step r settled p }
        → is_refusal settled ≡ false → closes settled h.closed ≡ h.closed
        → Left (Ok d.event) (numbers_of d.held) (put_at rows d.place (row_from d.held.header)) (meant h rows) (step r settled p)
    unfolding after
    kept_at settled p m n c = record {
      event_is = ap (λ (b : Beside). b.step.event) m;
      numbers = rw (n, c) (ap (λ (b : Beside). encode (record { setting = b.setting; closed = b.closed; reader = b.step.reader; rows = [] })) m);
      table = rw n (ap (λ (b : Beside). put_at rows b.step.place b.step.reader.chunk.header) m);
    }

    left_kept : (settled : Event) (p : ℕ) → told (Ok d) ≡ done_of h (step r settled p)
        → Left (Ok d.event) (numbers_of d.held) (put_at rows d.place (row_from d.held.header)) (meant h rows) (step r settled p)
    left_kept Go p q = kept_at Go p (cc) refl refl
    left_kept Chunk p q = kept_at Chunk p (cc) refl refl
    left_kept Message p q = kept_at Message p (cc) refl refl
    left_kept (Refuse k) p q = absurd cc

-- the same of a decoder that is lent, and of any step of it
module _ (held rows : List ℕ) (h : Held) (e : h ≡ held_in held) (f : Decoder → Stepped) where
  pub refused_lent : (k : ChunkRefusal) → told (Err k) ≡ done_of h (f (meant h rows))
      → Left (Err k) (encode (shut_with (meant h []) (refusal_number k))) rows (decode held rows) (f (decode held rows))
  refused_lent k q =
      let s = f (meant h rows) in
      subst (λ (x : Held). Left (Err k) (encode (shut_with (meant h []) (refusal_number k))) rows (meant x rows) (f (meant x rows))) e
      (left_refused h rows s.reader k s.event s.place q)

  pub kept_lent : (d : Done) → told (Ok d) ≡ done_of h (f (meant h rows))
      → Left (Ok d.event) (numbers_of d.held) (put_at rows d.place (row_from d.held.header)) (decode held rows) (f (decode held rows))
  kept_lent d q =
      let s = f (meant h rows) in
      subst (λ (x : Held). Left (Ok d.event) (numbers_of d.held) (put_at rows d.place (row_from d.held.header)) (meant x rows) (f (meant x rows))) e
      (left_kept h rows s.reader d s.event s.place q)

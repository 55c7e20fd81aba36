-- The rows of a call: before the byte that is refused more is wanted, so what came is read in one way, and that byte settles the chunk at hand.
use Rattle.std.proofs.Common.{◌≡◌, ℕ, suc, ◌+◌, ◌-◌, ◌<◌, ◌≤◌, Bool, true, false, ltb, ◌≢◌, ◌⊎◌, List, [], ◌∷◌, ◌++◌, length, get_or, take, drop, sym, refl, ap, ◌∙◌, subst, inl, inr, ⊎_elim, append_assoc, zero-add, arith, take-append-drop, drop-cons, take-suc, ltb-false, ltb-true}
use Rattle.fields.specs.Endian.{Bytes}
use Rattle.fields.proofs.Lists.{bytes_take}
use Rattle.chunk_header.specs.Layout.{Chunk}
use Rattle.decoding.specs.Decoder.{Decoder}
use Rattle.decoding.specs.Answer.{more, refused}
use Rattle.decoding.specs.Call.{Outcome, next, run}
use Rattle.decoding.proofs.Covers.{bytes_append}
use Rattle.decoding.proofs.Cut.{feed_answered, feed_append, has_run, refused_not_more, run_kept, shift}
use Rattle.decoding.proofs.Progress.{run_uses}
use Rattle.decoding.proofs.Runs.{next_runs, next_short}
use Rattle.stream_meaning.specs.Connection.{AllFit, Item, streams}
use Rattle.stream_meaning.specs.Feeding.{Sign, byte, signs, signs_of}
use Rattle.stream_meaning.specs.Stream.{HeadFits}
use Rattle.stream_meaning.proofs.Connecting.{signs_append}
use Rattle.refusal_table.specs.History.{Closed, Open, Settled, wanted}
use Rattle.refusal_table.specs.Table.{Call, CallAt}
use Rattle.refusal_table.specs.Terms.{OneOf}
use Rattle.refusal_table.proofs.Closes.{ClosedAt, closed_at}
use Rattle.refusal_table.proofs.Deciding.{listed}
use Rattle.refusal_table.proofs.OneByte.{Refusal, begun_part, between, byte_same, counted, full, gives_here, last_same, one_byte, part_some, refusal, some_last}
use Rattle.refusal_table.proofs.Opened.{Stands, amid_of, calls_same, only_reading, open_amid, stands_of}
use Rattle.refusal_table.proofs.Settling.{At, Settles, numbers}

-- a call of an open decoder with a long enough buffer
module _ {came : List Sign} {d : Decoder} (o : Open came d) (input payload : List ℕ) (are_bytes : Bytes input) where
  is_open : d.closed ≡ 0
  is_open = (open_amid (amid_of (stands_of o))).0

  -- after some bytes that want more
  module _ (m : ℕ) (inside : m < length input) (before : (next d (take m input) payload).answer ≡ more m) where
    abbrev d₁ : Decoder
    d₁ = (next d (take m input) payload).deserializer

    abbrev payload₁ : List ℕ
    payload₁ = (next d (take m input) payload).payload

    abbrev x : ℕ
    x = get_or input m 0

    o₁ : Open (came ++ signs (take m input)) d₁
    o₁ = wanted o (take m input) payload (bytes_take m input are_bytes) m before

    abbrev s₁ : Stands (came ++ signs (take m input)) d₁
    s₁ = stands_of o₁

    kept : (d₁.closed ≡ 0) × ((d₁.setting.room ≡ d.setting.room) × (length payload₁ ≡ length payload))
    kept =
        let h = has_run d (take m input) payload m before in
        let e = next_runs d (take m input) payload h.1 h.0 in
        let k = run_kept (take m input) d payload 0 in
        ((open_amid (amid_of s₁)).0, (ap (λ (o : Outcome). o.deserializer.setting.room) e ∙ k.room, ap (λ (o : Outcome). length o.payload) e ∙ k.long))

    -- the rest of the input is a call after them
    rest_of : next d input payload ≡ shift m (next d₁ (x ∷ drop (suc m) input) payload₁)
    rest_of =
        ap (λ (l : List ℕ). next d l payload) (sym (take-append-drop m input))
        ∙ feed_append d (take m input) (drop m input) payload m before
        ∙ ap (λ (l : List ℕ). shift m (next d₁ l payload₁)) (drop-cons input m 0 inside)

    -- with any long enough buffer, and whatever follows the byte
    same_answer : (b : List ℕ) → d₁.setting.room ≤ length b → (k : ℕ) → (next d₁ (x ∷ []) b).answer ≡ refused k 1 → (next d₁ (x ∷ drop (suc m) input) payload₁).answer ≡ refused k 1
    same_answer b long k h =
        let p = has_run d (take m input) payload m before in
        let other : (j : ℕ) → (next d₁ (x ∷ []) b).answer ≢ more j = λ j e. refused_not_more (sym h ∙ e) in
        let both = feed_answered d₁ (x ∷ []) (drop (suc m) input) b other in
        let l : d₁.setting.room ≤ length payload₁ = omega (arith, kept.1.0, kept.1.1, p.0) in
        (calls_same d₁ (x ∷ drop (suc m) input) payload₁ b kept.0 l long).answer ∙ ap (λ (r : Outcome). r.answer) both ∙ h

    -- given, where a chunk is settled by the byte
    gives_at : (part : Chunk → List ℕ) (k : ℕ) (Holds : ℕ → List Item → Chunk → Type 0) → k ≢ 0 → Settles part k Holds
        → (items : List Item) (c : Chunk)
        → came ++ signs (take (suc m) input) ≡ signs_of items ++ signs (part c)
        → AllFit items
        → HeadFits (streams items c.id) c
        → Holds d.setting.room items c
        → (next d input payload).answer ≡ refused k (m + 1)
    gives_at part k Holds nz s items c come fits can holds =
        let q = some_last (part c) (part_some (part c) c (s.part_is c)) in
        let y = q.1.0 in
        let ends : (came ++ signs (take m input)) ++ (byte x ∷ []) ≡ (signs_of items ++ signs q.0) ++ (byte y ∷ []) =
        append_assoc came (signs (take m input)) (byte x ∷ [])
        ∙ ap (λ (l : List Sign). came ++ l) (sym (signs_append (take m input) (x ∷ [])))
        ∙ ap (λ (l : List ℕ). came ++ signs l) (sym (take-suc input m 0 inside))
        ∙ come
        ∙ ap (λ (l : List ℕ). signs_of items ++ signs l) q.1.1
        ∙ ap (λ (l : List Sign). signs_of items ++ l) (signs_append q.0 (y ∷ []))
        ∙ sym (append_assoc (signs_of items) (signs q.0) (byte y ∷ []))
        in
        let last = last_same (came ++ signs (take m input)) (signs_of items ++ signs q.0) (byte x) (byte y) ends in
        let xy : x ≡ y = byte_same last.1 in
        let begun = begun_part items c (part c) (s.part_is c) q.0 y q.1.1 can in
        let only = only_reading s₁ (record { items = items; part = q.0; is = last.0; fits = fits; begun = begun }) in
        let a = amid_of s₁ in
        let same : part c ≡ full a x = q.1.1 ∙ (rw (sym only.1, sym xy)) in
        let room : d.setting.room ≡ a.decoder.setting.room = sym kept.1.0 ∙ (open_amid a).1.1 in
        let can' = subst (λ (l : List Item). HeadFits (streams l c.id) c) (sym only.0) can in
        let holds' = subst (λ (l : List Item). Holds a.decoder.setting.room l c) (sym only.0) (subst (λ (r : ℕ). Holds r items c) room holds) in
        let at = subst (λ (l : List ℕ). At a.decoder c k l) same (s.settles (between a x) c can' holds') in
        let here = gives_here a x k c nz can' at in
        ap (λ (o : Outcome). o.answer) rest_of ∙ (rw (same_answer s₁.buffer (open_amid a).1.0 k here))

  -- a call that is refused by bytes
  module _ (long : d.setting.room ≤ length payload) (k n : ℕ) (h : (next d input payload).answer ≡ refused k n) where
    runs : next d input payload ≡ run input d payload 0
    runs = next_runs d input payload is_open long

    cut : ClosedAt input d payload 0 k n
    cut = closed_at input d payload 0 k n (rw runs at h)

    others_is : n - 1 ≡ cut.others
    others_is = omega (arith, cut.used)

    wants : (next d (take cut.others input) payload).answer ≡ more cut.others
    wants = ap (λ (o : Outcome). o.answer) (next_runs d (take cut.others input) payload is_open long) ∙ cut.wants ∙ ap more (zero-add cut.others)

    within : n ≤ length input
    within =
        let u : n ≤ 0 + length input = rw h at (rw (← runs) at (run_uses input d payload 0).most) in
        omega (arith, u)

    abbrev m : ℕ
    m = cut.others

    inside : m < length input
    inside = omega (arith, within, cut.used)

    -- "closed": the byte that settles it only closes
    closed : Closed k d input payload n
    closed =
        let f = next_runs d (take (n - 1) input) payload is_open long ∙ ap (λ (i : ℕ). run (take i input) d payload 0) others_is in
        record { closes = rw (runs, f) (ap (λ (o : Outcome). o.deserializer) cut.closes); stays = rw (runs, f) (ap (λ (o : Outcome). o.payload) cut.closes) }

    -- the byte, after the others
    byte_refused : (next (d₁ m inside wants) (x m inside wants ∷ []) (s₁ m inside wants).buffer).answer ≡ refused k 1
    byte_refused =
        let a = amid_of (s₁ m inside wants) in
        let e : (next d (take (suc m) input) payload).answer ≡ refused k n =
        ap (λ (o : Outcome). o.answer) (next_runs d (take (suc m) input) payload is_open long) ∙ cut.refuses
        in
        let f : next d (take (suc m) input) payload ≡ shift m (next (d₁ m inside wants) (x m inside wants ∷ []) (payload₁ m inside wants)) =
        ap (λ (l : List ℕ). next d l payload) (take-suc input m 0 inside) ∙ feed_append d (take m input) (x m inside wants ∷ []) payload m wants
        in
        let n_is : n ≡ m + 1 = omega (arith, cut.used) in
        let g = counted (next (d₁ m inside wants) (x m inside wants ∷ []) (payload₁ m inside wants)) m k 1 (ap (λ (o : Outcome). o.answer) (sym f) ∙ e ∙ ap (refused k) n_is) in
        let k₁ = kept m inside wants in
        let l : (d₁ m inside wants).setting.room ≤ length (payload₁ m inside wants) = omega (arith, k₁.1.0, k₁.1.1, long) in
        (calls_same (d₁ m inside wants) (x m inside wants ∷ []) (s₁ m inside wants).buffer (payload₁ m inside wants) k₁.0 (open_amid a).1.0 l).answer ∙ g

    its_refusal : Refusal (amid_of (s₁ m inside wants)) (x m inside wants) k byte_refused
        (bytes_append (amid_of (s₁ m inside wants)).part_of (x m inside wants ∷ []) (amid_of (s₁ m inside wants)).bytes (one_byte input m are_bytes))
    its_refusal = refusal (amid_of (s₁ m inside wants)) (x m inside wants) k byte_refused _

    settled : (part : Chunk → List ℕ) (Holds : ℕ → List Item → Chunk → Type 0) → Settles part k Holds → Settled part (Holds d.setting.room) came d input payload n
    settled part Holds s =
        let a = amid_of (s₁ m inside wants) in
        let r = its_refusal in
        let t = s.tells (between a (x m inside wants)) r.chunk r.fits (full a (x m inside wants)) r.at in
        let room : a.decoder.setting.room ≡ d.setting.room = sym (open_amid a).1.1 ∙ (kept m inside wants).1.0 in
        let n_is : n ≡ suc m = omega (arith, cut.used) in
        let come : came ++ signs (take (suc m) input) ≡ signs_of a.at_start_lem.items ++ signs (part r.chunk) =
        ap (λ (l : List ℕ). came ++ signs l) (take-suc input m 0 inside)
        ∙ ap (λ (l : List Sign). came ++ l) (signs_append (take m input) (x m inside wants ∷ []))
        ∙ sym (append_assoc came (signs (take m input)) (signs (x m inside wants ∷ [])))
        ∙ ap (λ (l : List Sign). l ++ signs (x m inside wants ∷ [])) (a.came_is ∙ ap (λ (l : List Sign). l ++ signs a.part_of) a.at_start_lem.is)
        ∙ append_assoc (signs_of a.at_start_lem.items) (signs a.part_of) (signs (x m inside wants ∷ []))
        ∙ ap (λ (l : List Sign). signs_of a.at_start_lem.items ++ l) (sym (signs_append a.part_of (x m inside wants ∷ [])) ∙ ap signs t.1)
        in
        record {
          nth = (omega (arith, cut.used), within);
          before = rw others_is wants;
          items = a.at_start_lem.items;
          chunk = r.chunk;
          come = ap (λ (i : ℕ). came ++ signs (take i input)) n_is ∙ come;
          fits = a.at_start_lem.fits;
          can_come = r.fits;
          holds = subst (λ (z : ℕ). Holds z a.at_start_lem.items r.chunk) room t.0;
        }

    one_of_them : OneOf k (9 ∷ 10 ∷ 11 ∷ 12 ∷ 13 ∷ 14 ∷ [])
    one_of_them =
        let r = its_refusal in
        numbers (between (amid_of (s₁ m inside wants)) (x m inside wants)) r.chunk r.fits k _ r.some r.at

  -- given, where the chunk is there
  gives : (part : Chunk → List ℕ) (k : ℕ) (Holds : ℕ → List Item → Chunk → Type 0) (n : ℕ) → k ≢ 0 → Settles part k Holds
      → Settled part (Holds d.setting.room) came d input payload n
      → (next d input payload).answer ≡ refused k n
  gives part k Holds n nz s t =
      let e : n ≡ n - 1 + 1 = omega (arith, t.nth.0) in
      let f : suc (n - 1) ≡ n = omega (arith, t.nth.0) in
      let i : n - 1 < length input = omega (arith, t.nth.0, t.nth.1) in
      gives_at (n - 1) i t.before part k Holds nz s t.items t.chunk (ap (λ (j : ℕ). came ++ signs (take j input)) f ∙ t.come) t.fits t.can_come t.holds
      ∙ ap (refused k) (sym e)

  -- what is refused is 7, or the buffer is long enough
  is_seven : length payload < d.setting.room → (next d input payload).answer ≡ refused 7 0
  is_seven s = ap (λ (o : Outcome). o.answer) (next_short d input payload is_open s)

  seven_or_long : (k n : ℕ) → (next d input payload).answer ≡ refused k n → ((k ≡ 7) × (n ≡ 0) × (length payload < d.setting.room)) ⊎ (d.setting.room ≤ length payload)
  seven_or_long k n h = by_length (ltb (length payload) d.setting.room) refl
    where
      by_length : (t : Bool) → ltb (length payload) d.setting.room ≡ t → ((k ≡ 7) × (n ≡ 0) × (length payload < d.setting.room)) ⊎ (d.setting.room ≤ length payload)
      by_length true e =
          let s = ltb-true (length payload) d.setting.room e in
          let q : refused 7 0 ≡ refused k n = sym (is_seven s) ∙ h in
          inl (cc, cc, s)
      by_length false e = inr (ltb-false (length payload) d.setting.room e)

pub call_7 : Call 7 (λ d payload. length payload < d.setting.room)
call_7 came d o input payload b n =
    let tells : (next d input payload).answer ≡ refused 7 n → (length payload < d.setting.room) × (n ≡ 0) = λ h.
    ⊎_elim (λ s. (s.2, s.1)) (λ l. absurd ((listed 7 (9 ∷ 10 ∷ 11 ∷ 12 ∷ 13 ∷ 14 ∷ [])).no refl (one_of_them o input payload b l 7 n h)))
    (seven_or_long o input payload b 7 n h)
    in
    record {
      given = (tells, λ h. is_seven o input payload b h.0 ∙ ap (refused 7) (sym h.1));
      leaves = λ h. next_short d input payload (is_open o input payload b) (tells h).0;
    }

-- a number that bytes settle
pub call_at : (part : Chunk → List ℕ) (k : ℕ) (Holds : ℕ → List Item → Chunk → Type 0) → k ≢ 0 → k ≢ 7 → Settles part k Holds → CallAt part k Holds
call_at part k Holds nz n7 s came d o input payload b n =
    let long : (next d input payload).answer ≡ refused k n → d.setting.room ≤ length payload = λ h. ⊎_elim (λ s. absurd (n7 s.0)) (λ l. l) (seven_or_long o input payload b k n h) in
    record {
      given = (λ h. settled o input payload b (long h) k n h part Holds s, λ t. gives o input payload b part k Holds n nz s t);
      leaves = λ h. closed o input payload b (long h) k n h;
    }

-- any other number than 7 is one of six, and closes
pub call_refused : (came : List Sign) (d : Decoder) → Open came d → (input payload : List ℕ) → Bytes input → (k n : ℕ)
    → (next d input payload).answer ≡ refused k n
    → (k ≡ 7) ⊎ (OneOf k (9 ∷ 10 ∷ 11 ∷ 12 ∷ 13 ∷ 14 ∷ []) × ((next d input payload).deserializer.closed ≡ k))
call_refused came d o input payload b k n h =
    ⊎_elim (λ s. inl s.0) (λ l. inr (one_of_them o input payload b l k n h, ap (λ (d : Decoder). d.closed) (closed o input payload b l k n h).closes))
    (seven_or_long o input payload b k n h)

-- Chunks that follow change nothing but the payload and how much of the message has come, so that a run of them is taken before
-- the numbers are stored.
use Rattle.std.proofs.Common.{ℕ, ◌+◌, ◌-◌, ◌≤◌, ◌<◌, min, ◌≡◌, refl, sym, ap, ◌∙◌, ◌≢◌, Bool, true, false, List, arith, eqb, drop, get_or, length, take, eqb-true, Ok}
use Rattle.std.proofs.lemmas.Bool.{eqb-false}
use Rattle.std.proofs.lemmas.List.Edits.{sets}
use Rattle.chunk_meaning.specs.Stored.{Row}
use Rattle.byte_machine.specs.Rows.{find, put_row, row_at, row_count}
use Rattle.byte_machine.proofs.RowLaws.{put_own_lem}
use Rattle.decoding.specs.Call.{Outcome, run}
use Rattle.decoding.specs.Further.{Amid, Next, gone}
use Rattle.decoding.specs.Decoder.{Decoder}
use Rattle.decoding.proofs.Cut.{run_shift, shift}
use Rattle.decoding.proofs.FurtherOn.{amid_at, amid_gone, further_runs}
use Rattle.held.specs.declared.numbers.HeldRow.{HeldRow}
use Rattle.held.specs.Numbers.{decode, encode, held_row_of, numbers_of}
use Rattle.held.proofs.Again.{decode_encode}
use Rattle.held.proofs.Stages.{is_csid}
use Rattle.in_place.specs.declared.further.Gone.{Gone}
use Rattle.in_place.specs.declared.paying.Moved.{Moved}
use Rattle.in_place.specs.Follow.{Follows, Goes, Paused, Plain, gone_to}
use Rattle.held.specs.Done.{settled_by}
use Rattle.held.specs.declared.done.Event.TheVariants.{Chunk as EndsChunk}
use Rattle.in_place.specs.Turn.{Turned, follows}

module _ (size id long come : ℕ) (input : List ℕ) (start : ℕ) (payload : List ℕ) where
  -- none yet
  pub goes_none : start ≤ length input → Goes (record { got = come; at = start }) size id long come input start payload payload
  goes_none k = record {
    on = omega arith;
    within = k;
    still = λ _. refl;
    none = λ _. refl;
    first = λ n. absurd (n refl);
    runs = λ d place r e i l a s. refl;
  }

  -- one more
  pub goes_more : (g : Gone) (n m : ℕ) (payload₁ payload₂ : List ℕ) → Goes g size id long come input start payload payload₁
      → Next input g.at id g.got long n
      → n ≡ min size (long - g.got)
      → payload₂ ≡ sets payload₁ g.got (take n (drop (g.at + 1) input))
      → m ≡ n
      → Goes (record { got = g.got + n; at = g.at + 1 + m }) size id long come input start payload payload₂
  goes_more g n m payload₁ payload₂ h w e b q = record {
    on = omega (arith, h.on);
    within = omega (arith, w.whole_in, w.there, q);
    still = λ z. absurd (omega (arith, z, h.on));
    none = λ z. absurd (omega (arith, z, h.on));
    first = λ _. by_start (eqb g.at start) refl;
    runs = λ d place r size_is i l a s.
        h.runs d place r size_is i l a s
        ∙ further_runs (gone d place r g.got) input payload₁ g.at place n r (amid_gone (gone d place r come) place g.got r a) s (rw (i, l) w) (rw (size_is, l) e)
        ∙ (rw (← b, q));
  }
    where
      by_start : (t : Bool) → eqb g.at start ≡ t → Next input start id come long (min size (long - come))
      by_start true z =
          let at_start_lem = eqb-true g.at start z in
          rw (← at_start_lem, ← h.still at_start_lem, ← e) w
      by_start false z = h.first (eqb-false g.at start z)

-- no chunk follows
pub follows_none : (held rows input : List ℕ) (at : ℕ) (payload : List ℕ) → at ≤ length input → Follows at held rows input at payload held payload
follows_none held rows input at payload k = record { on = omega arith; within = k; room = refl; kept = λ e. e; runs = refl }

-- some do
module _ (held rows input : List ℕ) (at place : ℕ) (payload : List ℕ) (row : HeldRow) (p : Paused held) (place_is : place ≡ find rows (get_or held 9 0)) (found : place < row_count)
    (row_is : row ≡ held_row_of (row_at rows place)) (k : Plain rows place row (get_or held 0 0)) where
  abbrev d : Decoder
  d = decode held rows

  abbrev r : Row
  r = row_at rows place

  its_row : row ≡ held_row_of r
  its_row = row_is

  amid : Amid d place r
  amid =
      amid_at d place (is_csid (get_or held 3 0) (get_or held 4 0) (get_or held 5 0) p.stage) p.least p.most place_is found (rw its_row at k.plain) (rw its_row at k.fits)

  same : put_row rows place r ≡ rows
  same = put_own_lem rows place (get_or held 9 0) place_is found k.own

  -- what came before the first of them does not count
  as_gone : Next input at (get_or held 9 0) (get_or held 10 0) r.message_length (min (get_or held 1 0) (r.message_length - get_or held 10 0))
      → run (drop at input) d payload at ≡ run (drop at input) (gone d place r (get_or held 10 0)) payload at
  as_gone w =
      let n = min (get_or held 1 0) (r.message_length - get_or held 10 0) in
      let w' : Next input at r.id (get_or held 10 0) r.message_length n = rw (← amid.message) w in
      further_runs d input payload at place n r amid same w' refl
      ∙ sym (further_runs (gone d place r (get_or held 10 0)) input payload at place n r (amid_gone d place (get_or held 10 0) r amid) same w' refl)

  pub follows_some : (g : Gone) (held' payload' : List ℕ) → Goes g (get_or held 1 0) (get_or held 9 0) row.length (get_or held 10 0) input at payload payload' → g.at ≢ at
      → held' ≡ numbers_of (gone_to held place row g.got)
      → Follows g.at held rows input at payload held' payload'
  follows_some g held' payload' h moved e =
      let d' = gone d place r g.got in
      let long : row.length ≡ r.message_length = ap (λ (x : HeldRow). x.length) its_row in
      let numbers : held' ≡ encode d' = e ∙ (rw (its_row, amid.message)) in
      let means : decode held' rows ≡ d' = rw numbers (decode_encode d' (omega arith)) in
      record {
        on = h.on;
        within = h.within;
        room = ap (λ (l : List ℕ). get_or l 0 0) e;
        kept = λ _. numbers ∙ ap (λ (x : Decoder). encode x) (sym means);
        runs =
            as_gone (rw long at (h.first moved))
            ∙ h.runs d place r refl (sym amid.message) (sym long) (amid_gone d place (get_or held 10 0) r amid) same
            ∙ (rw (← means));
      }

-- a turn that ended a chunk, and the chunks that follow
pub turned_further : (m : Moved) (at : ℕ) (held rows input payload held₁ rows₁ payload₁ held₂ payload₂ : List ℕ) → Turned m held rows input payload held₁ rows₁ payload₁ → m.event ≡ Ok EndsChunk
    → Follows at held₁ rows₁ input m.used payload₁ held₂ payload₂
    → Turned (record { event = m.event; used = at }) held rows input payload held₂ rows₁ payload₂
turned_further m at held rows input payload held₁ rows₁ payload₁ held₂ payload₂ t e f = record {
  some = omega (arith, t.some, f.on);
  within = f.within;
  room = f.room ∙ t.room;
  kept = f.kept t.kept;
  runs = λ n.
      t.runs n
      ∙ goes_on (decode held₁ rows₁) payload₁ (n + m.used) (drop m.used input)
      ∙ run_shift (drop m.used input) (decode held₁ rows₁) payload₁ n m.used
      ∙ ap (λ (o : Outcome). shift n o) f.runs
      ∙ sym (run_shift (drop at input) (decode held₂ rows₁) payload₂ n at)
      ∙ sym (goes_on (decode held₂ rows₁) payload₂ (n + at) (drop at input));
}
  where
    goes_on : (d : Decoder) (payload : List ℕ) (used : ℕ) (rest : List ℕ) → follows (settled_by m.event) d payload used rest ≡ run rest d payload used
    goes_on d payload used rest = rw e

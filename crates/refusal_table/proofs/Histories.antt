-- Every decoder that calls can make is open, or closed with a number that closes, as any other refusal leaves it as it was; and no length over its room is said to it.
use Rattle.std.proofs.Common.{◌≡◌, ℕ, ◌<◌, ◌≤◌, ◌≢◌, ◌⊎◌, List, [], ◌∷◌, refl, ap, ◌∙◌, subst, inl, inr, ⊎_elim, arith}
use Rattle.fields.specs.Endian.{Bytes}
use Rattle.chunk_header.specs.Layout.{Header, type0, type1, type2, type3, format}
use Rattle.decoding.specs.Decoder.{Decoder}
use Rattle.decoding.specs.Answer.{Listed, message, more, refused}
use Rattle.decoding.specs.Call.{next}
use Rattle.decoding.specs.Told.{Outcome as Told, made, told}
use Rattle.decoding.proofs.Entries.{made_by, told_by}
use Rattle.decoding.proofs.Runs.{next_closed}
use Rattle.stream_meaning.specs.Connection.{Item, streams}
use Rattle.stream_meaning.specs.Feeding.{Sign}
use Rattle.stream_meaning.specs.Said.{said_on}
use Rattle.stream_meaning.specs.Stream.{Said, carries}
use Rattle.refusal_table.specs.Conditions.{type}
use Rattle.refusal_table.specs.History.{Made, Open, Read, new, fed, sized, opened, resized, handed, wanted}
use Rattle.refusal_table.specs.Table.{LengthsFit}
use Rattle.refusal_table.specs.Terms.{OneOf}
use Rattle.refusal_table.proofs.Calls.{call_7, call_refused}
use Rattle.refusal_table.proofs.Deciding.{listed}
use Rattle.refusal_table.proofs.Opened.{amid_of, only_reading, open_amid, stands_of}
use Rattle.refusal_table.proofs.Sizes.{told_closed}

abbrev closing : List ℕ
closing = 6 ∷ 9 ∷ 10 ∷ 11 ∷ 12 ∷ 13 ∷ 14 ∷ []

abbrev Either : Decoder → Type 0
Either d = ((came : List Sign) × Open came d) ⊎ OneOf d.closed closing

not_0 : (k : ℕ) → OneOf k closing → k ≢ 0
not_0 k h e = (listed 0 closing).no refl (rw e at h)

-- a decoder that is made
made_either : (room : ℕ) → Either (made room).deserializer
made_either room =
    made_by room (λ (o : Told). made room ≡ o → Either o.deserializer) (λ bad e. inr (inl refl))
    (λ good e. inl ([], rw e at (opened room (ap (λ (o : Told). o.answer) e)))) refl

-- a call to an open one
fed_either : (came : List Sign) (d : Decoder) → Open came d → (input payload : List ℕ) → Bytes input → (l : Listed) → (next d input payload).answer ≡ l
    → Either (next d input payload).deserializer
fed_either came d o input payload b (message type stream time long used) h = inl (_, handed o input payload b type stream time long used h)
fed_either came d o input payload b (more used) h = inl (_, wanted o input payload b used h)
fed_either came d o input payload b (refused k n) h =
    ⊎_elim (λ e. inl (came, rw ((call_7 came d o input payload b n).leaves (h ∙ ap (λ (i : ℕ). refused i n) e)) o)) (λ c. inr (inr (rw c.1 c.0)))
    (call_refused came d o input payload b k n h)

-- a size told to an open one
told_either : (came : List Sign) (d : Decoder) → Open came d → (size : ℕ) → Either (told d size).deserializer
told_either came d o size =
    told_by d size (λ (x : Told). told d size ≡ x → Either x.deserializer) (λ k e. inl (came, o))
    (λ c b e. inl (_, rw e at (resized o size (ap (λ (x : Told). x.answer) e)))) refl

pub open_or_closed : (d : Decoder) → Made d
    → ((came : List Sign) × Open came d) ⊎ OneOf d.closed (6 ∷ 9 ∷ 10 ∷ 11 ∷ 12 ∷ 13 ∷ 14 ∷ [])
open_or_closed d (new room) = made_either room
open_or_closed d (fed {d = d₀} m input payload b) = by_cases (open_or_closed d₀ m)
  where
    by_cases : Either d₀ → Either (next d₀ input payload).deserializer
    by_cases (inl o) = fed_either o.0 d₀ o.1 input payload b (next d₀ input payload).answer refl
    by_cases (inr c) = inr (rw (next_closed d₀ input payload (not_0 d₀.closed c)) c)
open_or_closed d (sized {d = d₀} m size) = by_cases (open_or_closed d₀ m)
  where
    by_cases : Either d₀ → Either (told d₀ size).deserializer
    by_cases (inl o) = told_either o.0 d₀ o.1 size
    by_cases (inr c) = inr (rw (told_closed d₀ (not_0 d₀.closed c) size) c)

-- the lengths that were said
lengths : (came : List Sign) (d : Decoder) → Open came d → (r : Read came) → (id : ℕ) → (said_on (streams r.items id)).length ≤ d.setting.room
lengths came d o r id =
    let s = stands_of o in
    let a = amid_of s in
    let same = subst (λ (l : List Item). (said_on (streams l id)).length ≤ a.decoder.setting.room) (only_reading s r).0 (a.at_start_lem.fit_room id) in
    omega (arith, same, (open_amid a).1.1)

-- a length that is over the room is the header's
by_header : (room : ℕ) (h : Header) (before : Said) → before.length ≤ room → room < (carries h before).length → OneOf (format h) (0 ∷ 1 ∷ [])
by_header room (type0 time length type stream) before f o = inl refl
by_header room (type1 delta length type) before f o = inr (inl refl)
by_header room (type2 delta) before f o = absurd (omega arith)
by_header room type3 before f o = absurd (omega arith)

pub lengths_fit : LengthsFit
lengths_fit = record { said = lengths; types = λ came d o r c h. by_header d.setting.room c.header _ (lengths came d o r c.id) h.1 }

-- A decoder between chunks, to which items have come whole: it sees what they make of each stream, and has handed out what they mean.
use Rattle.std.proofs.Common.{◌≡◌, ℕ, ◌≤◌, Bool, true, false, cond, eqb, ◌≢◌, List, [], ◌∷◌, ◌++◌, length, sym, refl, ap, ◌∙◌, subst, append-nil, arith, ne_eqb, eqb-true}
use mathlib.Core.Option.{Option, none, some}
use borrow.Author.Tests.{eqb-false}
use Rattle.chunk_header.specs.Layout.{Chunk, chunk_bytes}
use Rattle.chunk_header.specs.Limits.{initial_size}
use Rattle.byte_machine.proofs.Putting.{Lists, lists_empty}
use Rattle.byte_machine.proofs.RowLaws.{find_empty}
use Rattle.decoding.specs.Decoder.{Decoder}
use Rattle.decoding.specs.Call.{Outcome}
use Rattle.decoding.specs.Calls.{Ready, after_size, by_new}
use Rattle.decoding.specs.Told.{made, sized, taken as size_taken, told}
use Rattle.decoding.proofs.Entries.{made_fresh}
use Rattle.decoding.proofs.Taken.{id_some}
use Rattle.stream_meaning.specs.Connection.{AllFit, Item, chunk, listed, means, opened, quiet, size, size_from, streams, taken}
use Rattle.stream_meaning.specs.Feeding.{Sign, new_size, signs, signs_of}
use Rattle.stream_meaning.specs.Said.{said_on}
use Rattle.stream_meaning.specs.Stream.{Fits, Message, Stream, hands, saying, takes}
use Rattle.stream_meaning.specs.Taking.{Answers, NotRefused, Took, fed, handed_by}
use Rattle.stream_meaning.specs.View.{viewed}
use Rattle.stream_meaning.proofs.Connecting.{fit_append, means_append, opened_append, signs_of_append, size_append, streams_append}
use Rattle.stream_meaning.proofs.Taking.{lists_after, own_stream, streams_same}

-- a decoder that sees the streams
abbrev pub Sees : Decoder → (buffer : List ℕ) → (ℕ → Stream) → Type 0
Sees d buffer streams = (id : ℕ) → id ≢ 0 → viewed d buffer id ≡ streams id

pub record Whole (came : List Sign) (messages : List Message) (d : Decoder) (buffer : List ℕ) : Type 0 where
  pub items : List Item
  pub ready : Ready d buffer
  pub sees : Sees d buffer (streams items)
  pub fits : AllFit items
  pub in_force : d.setting.size ≡ size_from initial_size items
  pub handed_out : messages ≡ means items
  pub is : came ≡ signs_of items
  pub ids : Lists d.rows (opened items)
  pub fit_room : (id : ℕ) → (said_on (streams items id)).length ≤ d.setting.room

-- the answer hands out what is to be handed out
answers_listed : (h : Option Message) (used : ℕ) (o : Outcome) → Answers h used o → handed_by o.answer o.payload ≡ listed h
answers_listed none used o e = rw e
answers_listed (some m) used o e = rw (e.0, e.1)

-- after a chunk the decoder sees what the chunk makes of the streams, and no length is over the room
sees_after : {d : Decoder} {buffer : List ℕ} {streams : ℕ → Stream} (c : Chunk) (o : Outcome) → c.id ≢ 0 → Sees d buffer streams → Took d buffer c o
    → Sees o.deserializer o.payload (taken streams c)
sees_after {d} {buffer} {streams} c o n sees t id z = by_id (eqb id c.id) refl
  where
    by_id : (u : Bool) → eqb id c.id ≡ u → viewed o.deserializer o.payload id ≡ cond u (takes (streams c.id) c) (streams id)
    by_id true e = rw (eqb-true id c.id e) (t.mine ∙ ap (λ (s : Stream). takes s c) (sees c.id n))
    by_id false e = t.others id z (eqb-false _ _ e) ∙ sees id z

room_after : (streams : ℕ → Stream) (c : Chunk) (room : ℕ) → (saying (streams c.id) c).length ≤ room → ((id : ℕ) → (said_on (streams id)).length ≤ room)
    → (id : ℕ) → (said_on (taken streams c id)).length ≤ room
room_after streams c room new h id = by_id (eqb id c.id)
  where
    by_id : (u : Bool) → (said_on (cond u (takes (streams c.id) c) (streams id))).length ≤ room
    by_id true = new
    by_id false = h id

-- a chunk that is not refused
module _ {came : List Sign} {messages : List Message} {d : Decoder} {buffer : List ℕ} (w : Whole came messages d buffer) (c : Chunk)
    (fits : Fits d.setting.size (viewed d buffer c.id) c) (h : NotRefused (fed d buffer c).answer) where
  n : c.id ≢ 0
  n = id_some c.form c.id fits.head.form

  same : viewed d buffer c.id ≡ streams w.items c.id
  same = w.sees c.id n

  pub its_took : Took d buffer c (fed d buffer c)
  its_took = own_stream d buffer c w.ready fits h

  abbrev o : Outcome
  o = fed d buffer c

  hands_it : handed_by o.answer o.payload ≡ listed (hands (streams w.items c.id) c)
  hands_it = answers_listed (hands (viewed d buffer c.id) c) _ o its_took.answers ∙ ap (λ (s : Stream). listed (hands s c)) same

  pub whole_then : Whole (came ++ signs (chunk_bytes c)) (messages ++ handed_by o.answer o.payload) o.deserializer o.payload
  whole_then =
      let t = its_took in
      record {
        items = w.items ++ (chunk c ∷ []);
        ready = t.ready;
        sees = rw (streams_append w.items (chunk c ∷ []) quiet) (sees_after c o n w.sees t);
        fits = fit_append w.items (chunk c ∷ []) initial_size quiet w.fits (rw (w.in_force, same) at fits, tt);
        in_force = t.same_size ∙ w.in_force ∙ sym (size_append w.items (chunk c ∷ []) initial_size);
        handed_out =
            ap (λ (l : List Message). l ++ handed_by o.answer o.payload) w.handed_out
            ∙ ap (λ (l : List Message). means w.items ++ l) (hands_it ∙ sym (append-nil (listed (hands (streams w.items c.id) c))))
            ∙ sym (means_append w.items (chunk c ∷ []) quiet);
        is =
            ap (λ (l : List Sign). l ++ signs (chunk_bytes c)) w.is
            ∙ ap (λ (l : List Sign). signs_of w.items ++ l) (sym (append-nil (signs (chunk_bytes c))))
            ∙ sym (signs_of_append w.items (chunk c ∷ []));
        ids = rw (opened_append w.items (chunk c ∷ []) []) (lists_after d buffer c w.ready fits h w.ids);
        fit_room =
            rw (streams_append w.items (chunk c ∷ []) quiet, t.same_room)
            (room_after (streams w.items) c d.setting.room (subst (λ (s : Stream). (saying s c).length ≤ d.setting.room) same t.fits_room) w.fit_room);
      }

-- a size that is taken
pub whole_sized : {came : List Sign} {messages : List Message} {d : Decoder} {buffer : List ℕ} → Whole came messages d buffer → (new : ℕ)
    → (told d new).deserializer ≡ sized d new
    → Whole (came ++ (new_size new ∷ [])) messages (told d new).deserializer buffer
whole_sized {came} {messages} {d} {buffer} w new e = record {
  items = w.items ++ (size new ∷ []);
  ready = record { by_calls = after_size w.ready.by_calls new; open_still = rw e w.ready.open_still; between_chunks = rw e w.ready.between_chunks; long = rw e w.ready.long };
  sees = rw (e, streams_append w.items (size new ∷ []) quiet) w.sees;
  fits = fit_append w.items (size new ∷ []) initial_size quiet w.fits tt;
  in_force = rw (e, size_append w.items (size new ∷ []) initial_size);
  handed_out = w.handed_out ∙ sym (means_append w.items (size new ∷ []) quiet ∙ append-nil _);
  is = ap (λ (l : List Sign). l ++ (new_size new ∷ [])) w.is ∙ sym (signs_of_append w.items (size new ∷ []));
  ids = rw (e, opened_append w.items (size new ∷ []) []) w.ids;
  fit_room = rw (e, streams_append w.items (size new ∷ []) quiet) w.fit_room;
}

-- a fresh decoder sees silent streams
pub whole_fresh : (room : ℕ) (buffer : List ℕ) → (made room).answer ≡ size_taken → room ≤ length buffer → Whole [] [] (made room).deserializer buffer
whole_fresh room buffer e l =
    let f = made_fresh room e in
    record {
      items = [];
      ready = record { by_calls = by_new room; open_still = rw f; between_chunks = rw f; long = rw f l };
      sees = rw f (λ id n. streams_same (rw (find_empty id n)) (rw (ne_eqb 0 id (λ z. n (sym z)))));
      fits = tt;
      in_force = rw f;
      handed_out = refl;
      is = refl;
      ids = rw f lists_empty;
      fit_room = λ id. omega arith;
    }

-- A later chunk of a message is taken: it is of the message's own stream, and says what was said before.
use Rattle.std.proofs.Common.{ℕ, ◌-◌, min, ◌≡◌, refl, sym, ap, subst, ◌∙◌, Bool, true, false, List, arith, eqb, length, eq-eqb, eqb-true, ne_eqb}
use mathlib.Core.Option.{some}
use Rattle.chunk_header.specs.declared.ChunkHeader.{ChunkHeader}
use Rattle.chunk_header.specs.Layout.{Chunk}
use Rattle.serializer.specs.Packet.{chunk, extended, later_format}
use Rattle.decoding.specs.Decoder.{Decoder}
use Rattle.decoding.specs.Chunk.{basic_refused, header, header_refused, row}
use Rattle.chunk_meaning.specs.Meaning.{basic_refusal, later_refusal}
use Rattle.stream_meaning.specs.Stream.{Said, Stream, before, Fits as FitsStream}
use Rattle.stream_meaning.specs.View.{said_in, viewed}
use Rattle.stream_meaning.proofs.Seeing.{before_is, number_is}
use Rattle.round_trip.proofs.Held.{seen_there}
use Rattle.round_trip.proofs.Wire.{Fits, Says, Taken, extended_there, fields_fit, number_field, said_by, stands}

module _ (h : ChunkHeader) (piece xs : List ℕ) (k : Fits h) where
  abbrev later : Bool → Chunk
  later forced = chunk (later_format forced) h piece

  says_later : (forced : Bool) → Says (stands h (some xs)) (later forced) h
  says_later true = refl
  says_later false = refl

  fits_later : (forced : Bool) (size : ℕ) → length piece ≡ min size (h.message_length - length xs) → FitsStream size (stands h (some xs)) (later forced)
  fits_later forced size e = record {
    head = record {
      form = (k.id_least, omega (arith, k.id_most));
      fields = fields_fit (later_format forced) h k;
      extended = extended_there h.timestamp_field _ (ap (λ (x : Said). x.field) (says_later forced)) k.field;
    };
    payload_of = let l = ap (λ (x : Said). x.length) (says_later forced) in omega (arith, e, l);
  }

  -- to a decoder that sees its stream so
  module _ (d : Decoder) (buffer : List ℕ) (seen : viewed d buffer h.chunk_stream_id ≡ stands h (some xs)) where
    own : d.reader.message.id ≡ h.chunk_stream_id
    own = by_test (eqb d.reader.message.id h.chunk_stream_id) refl (ap (λ (s : Stream). s.come) seen)
      where
        by_test : (t : Bool) → eqb d.reader.message.id h.chunk_stream_id ≡ t → (viewed d buffer h.chunk_stream_id).come ≡ some xs
            → d.reader.message.id ≡ h.chunk_stream_id
        by_test true e q = eqb-true _ _ e
        by_test false e q = absurd (let z = rw e at q in let y : ◌≡◌ {A = ℕ} 0 1 = cc in omega arith)

    begun : eqb d.reader.message.id 0 ≡ false
    begun = ne_eqb d.reader.message.id 0 (omega (arith, own, k.id_least))

    basic_later : (forced : Bool) → basic_refused d (later forced) ≡ 0
    unfolding basic_refusal
    basic_later true = rw (begun, eq-eqb d.reader.message.id h.chunk_stream_id own, seen_there d.rows _ (ap (λ (s : Stream). s.stored) seen))
    basic_later false = rw (begun, eq-eqb d.reader.message.id h.chunk_stream_id own)

    head_later : (forced : Bool) → (forced ≡ true → h.timestamp_field ≡ h.timestamp.value) → header_refused d (later forced) ≡ 0
    unfolding later_refusal
    head_later true e =
        let is : said_by h ≡ said_in (row d (later true)) = sym (ap (λ (s : Stream). before s (later true)) seen) ∙ before_is d buffer (later true) in
        rw (begun, ← number_is (extended h.timestamp_field) (header d (later true)), number_field h.timestamp_field _ refl, eq-eqb h.message_length _ (ap (λ (x : Said). x.length) is), eq-eqb h.message_type_id _ (ap (λ (x : Said). x.type) is), eq-eqb h.message_stream_id _ (ap (λ (x : Said). x.stream) is), eq-eqb h.timestamp_field _ (e refl ∙ ap (λ (x : Said). x.time) is))
    head_later false e = rw begun

    pub later_chunk : (forced : Bool) → (forced ≡ true → h.timestamp_field ≡ h.timestamp.value)
        → length piece ≡ min d.setting.size (h.message_length - length xs)
        → Taken d buffer (later forced) h
    later_chunk forced e l = record {
      says = subst (λ (s : Stream). Says s (later forced) h) (sym seen) (says_later forced);
      fits = subst (λ (s : Stream). FitsStream d.setting.size s (later forced)) (sym seen) (fits_later forced d.setting.size l);
      basic = basic_later forced;
      head = head_later forced e;
    }

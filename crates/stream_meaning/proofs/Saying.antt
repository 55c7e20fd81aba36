-- What is stored of a stream is what its chunks said last: each header replaces the fields that it has, and leaves the others.
use Rattle.std.proofs.Common.{◌≡◌, ℕ, ◌≢◌, List, [], ◌∷◌, refl, ap, ◌∙◌, arith}
use mathlib.Core.Option.{Option, none, get_or}
use Rattle.chunk_header.specs.Layout.{Chunk, Header, type0, type1, type2, type3}
use Rattle.stream_meaning.specs.Connection.{alone, field_in, last_or, length_in, own, quiet, stream_in, type_in}
use Rattle.stream_meaning.specs.Said.{SaidLast, StoresLast, said_on}
use Rattle.stream_meaning.specs.Stream.{Said, Stream, carries, said, silent, takes}
use Rattle.stream_meaning.proofs.Connecting.{own_alone}

-- a number of what was said that headers replace, whatever the time
record Field (part : Said → ℕ) (of : Header → Option ℕ) : Type 0 where
  replaced : (h : Header) (b : Said) → part (carries h b) ≡ get_or (of h) (part b)
  timeless : (b : Said) (t : ℕ) → part (said t b.field b.length b.type b.stream) ≡ part b

says_last : (part : Said → ℕ) (of : Header → Option ℕ) → Field part of → (cs : List Chunk) (s : Stream) → part (said_on (alone s cs)) ≡ last_or (part (said_on s)) of cs
says_last part of f [] s = refl
says_last part of f (c ∷ cs) s =
    says_last part of f cs (takes s c) ∙ ap (λ (x : ℕ). last_or x of cs) (f.timeless _ _ ∙ f.replaced c.header (said_on s))

field : Field (λ x. x.field) field_in
field = record { replaced = by_header; timeless = λ b t. refl }
  where
    by_header : (h : Header) (b : Said) → (carries h b).field ≡ get_or (field_in h) b.field
    by_header (type0 time length type stream) b = refl
    by_header (type1 delta length type) b = refl
    by_header (type2 delta) b = refl
    by_header type3 b = refl

length_of : Field (λ x. x.length) length_in
length_of = record { replaced = by_header; timeless = λ b t. refl }
  where
    by_header : (h : Header) (b : Said) → (carries h b).length ≡ get_or (length_in h) b.length
    by_header (type0 time length type stream) b = refl
    by_header (type1 delta length type) b = refl
    by_header (type2 delta) b = refl
    by_header type3 b = refl

type : Field (λ x. x.type) type_in
type = record { replaced = by_header; timeless = λ b t. refl }
  where
    by_header : (h : Header) (b : Said) → (carries h b).type ≡ get_or (type_in h) b.type
    by_header (type0 time length type stream) b = refl
    by_header (type1 delta length type) b = refl
    by_header (type2 delta) b = refl
    by_header type3 b = refl

stream : Field (λ x. x.stream) stream_in
stream = record { replaced = by_header; timeless = λ b t. refl }
  where
    by_header : (h : Header) (b : Said) → (carries h b).stream ≡ get_or (stream_in h) b.stream
    by_header (type0 time length type stream) b = refl
    by_header (type1 delta length type) b = refl
    by_header (type2 delta) b = refl
    by_header type3 b = refl

-- something is stored once a chunk has come
stored_on : (cs : List Chunk) (s : Stream) → s.stored ≢ none → (alone s cs).stored ≢ none
stored_on [] s h = h
stored_on (c ∷ cs) s h = stored_on cs (takes s c) (λ e. let z : ◌≡◌ {A = ℕ} 0 1 = cc in omega arith)

come_stored : (cs : List Chunk) → cs ≢ [] → (alone silent cs).stored ≢ none
come_stored [] n = λ e. n refl
come_stored (c ∷ cs) n = stored_on cs (takes silent c) (λ e. let z : ◌≡◌ {A = ℕ} 0 1 = cc in omega arith)

stored_come : (cs : List Chunk) → (alone silent cs).stored ≢ none → cs ≢ []
stored_come [] h e = h refl
stored_come (c ∷ cs) h e = let z : ◌≡◌ {A = ℕ} 0 1 = cc in omega arith

pub said_last_lem : (chunks : List Chunk) → SaidLast chunks (alone silent chunks)
said_last_lem chunks = record {
  there = (stored_come chunks, come_stored chunks);
  field = says_last (λ x. x.field) field_in field chunks silent;
  length_of = says_last (λ x. x.length) length_in length_of chunks silent;
  type = says_last (λ x. x.type) type_in type chunks silent;
  stream = says_last (λ x. x.stream) stream_in stream chunks silent;
}

pub stores_last : StoresLast
stores_last items id = let e = own_alone items quiet id in (e, rw e (said_last_lem (own id items)))

-- Items one after the other: their messages, streams, bytes and size are those of the first and then those of the others; and each stream is its own chunks'.
use Rattle.std.proofs.Common.{◌≡◌, ℕ, Bool, true, false, cond, eqb, List, [], ◌∷◌, ◌++◌, sym, refl, ap, ◌∙◌, append_assoc, eqb-true}
use Rattle.chunk_header.specs.Layout.{chunk_bytes}
use Rattle.stream_meaning.specs.Connection.{FitFrom, Item, alone, chunk, listed, means_from, opened_from, own, size, size_from, streams_from, taken}
use Rattle.stream_meaning.specs.Feeding.{Sign, byte, new_size, signs, signs_of}
use Rattle.stream_meaning.specs.Stream.{Message, Stream, hands, takes}

pub means_append : (xs ys : List Item) (streams : ℕ → Stream) → means_from streams (xs ++ ys) ≡ means_from streams xs ++ means_from (streams_from streams xs) ys
means_append [] ys streams = refl
means_append (chunk c ∷ xs) ys streams =
    ap (λ (l : List Message). listed (hands (streams c.id) c) ++ l) (means_append xs ys (taken streams c))
    ∙ sym (append_assoc (listed (hands (streams c.id) c)) (means_from (taken streams c) xs) (means_from (streams_from (taken streams c) xs) ys))
means_append (size new ∷ xs) ys streams = means_append xs ys streams

pub streams_append : (xs ys : List Item) (streams : ℕ → Stream) → streams_from streams (xs ++ ys) ≡ streams_from (streams_from streams xs) ys
streams_append [] ys streams = refl
streams_append (chunk c ∷ xs) ys streams = streams_append xs ys (taken streams c)
streams_append (size new ∷ xs) ys streams = streams_append xs ys streams

pub size_append : (xs ys : List Item) (now : ℕ) → size_from now (xs ++ ys) ≡ size_from (size_from now xs) ys
size_append [] ys now = refl
size_append (chunk c ∷ xs) ys now = size_append xs ys now
size_append (size new ∷ xs) ys now = size_append xs ys new

pub fit_append : (xs ys : List Item) (now : ℕ) (streams : ℕ → Stream) → FitFrom now streams xs → FitFrom (size_from now xs) (streams_from streams xs) ys
    → FitFrom now streams (xs ++ ys)
fit_append [] ys now streams a b = b
fit_append (chunk c ∷ xs) ys now streams a b = (a.0, fit_append xs ys now (taken streams c) a.1 b)
fit_append (size new ∷ xs) ys now streams a b = fit_append xs ys new streams a b

pub opened_append : (xs ys : List Item) (ids : List ℕ) → opened_from ids (xs ++ ys) ≡ opened_from (opened_from ids xs) ys
opened_append [] ys ids = refl
opened_append (chunk c ∷ xs) ys ids = opened_append xs ys _
opened_append (size new ∷ xs) ys ids = opened_append xs ys ids

pub signs_append : (xs ys : List ℕ) → signs (xs ++ ys) ≡ signs xs ++ signs ys
signs_append [] ys = refl
signs_append (x ∷ xs) ys = ap (λ (l : List Sign). byte x ∷ l) (signs_append xs ys)

pub signs_of_append : (xs ys : List Item) → signs_of (xs ++ ys) ≡ signs_of xs ++ signs_of ys
signs_of_append [] ys = refl
signs_of_append (chunk c ∷ xs) ys =
    ap (λ (l : List Sign). signs (chunk_bytes c) ++ l) (signs_of_append xs ys) ∙ sym (append_assoc (signs (chunk_bytes c)) (signs_of xs) (signs_of ys))
signs_of_append (size new ∷ xs) ys = ap (λ (l : List Sign). new_size new ∷ l) (signs_of_append xs ys)

-- each stream for itself
pub own_alone : (items : List Item) (streams : ℕ → Stream) (id : ℕ) → streams_from streams items id ≡ alone (streams id) (own id items)
own_alone [] streams id = refl
own_alone (size new ∷ items) streams id = own_alone items streams id
own_alone (chunk c ∷ items) streams id = own_alone items (taken streams c) id ∙ by_id (eqb id c.id) refl
  where
    by_id : (t : Bool) → eqb id c.id ≡ t
        → alone (cond t (takes (streams c.id) c) (streams id)) (own id items) ≡ alone (streams id) (cond t (c ∷ own id items) (own id items))
    by_id true e = rw (← eqb-true id c.id e)
    by_id false e = refl

-- A connection: the chunks of all its streams in their order, with the sizes told between them, and the messages that they mean.
use Rattle.std.specs.Prelude.{ℕ, cond, List, [], ◌∷◌, ◌++◌, eqb}
use Rattle.std.proofs.Math.Option.{Option, none, some, get_or}
use Rattle.fields.specs.Cases.{among}
use Rattle.chunk_header.specs.Layout.{Chunk, Header, type0, type1, type2, type3}
use Rattle.chunk_header.specs.Limits.{initial_size}
use Rattle.stream_meaning.specs.Stream.{Fits, Message, Stream, hands, silent, takes}

pub data Item : Type 0 where
  chunk : Chunk → Item
  size : ℕ → Item

-- one stream of all is another
abbrev pub update : (ℕ → Stream) → (id : ℕ) → Stream → ℕ → Stream
update streams id s i = cond (eqb i id) s (streams i)

-- a chunk to the stream of its id, and no other
abbrev pub taken : (ℕ → Stream) → Chunk → ℕ → Stream
taken streams c = update streams c.id (takes (streams c.id) c)

abbrev pub listed : Option Message → List Message
listed none = []
listed (some m) = m ∷ []

-- the messages of items, in the order in which they end
abbrev pub means_from : (ℕ → Stream) → List Item → List Message
means_from streams [] = []
means_from streams (chunk c ∷ items) = listed (hands (streams c.id) c) ++ means_from (taken streams c) items
means_from streams (size new ∷ items) = means_from streams items

-- and the streams after them
abbrev pub streams_from : (ℕ → Stream) → List Item → ℕ → Stream
streams_from streams [] = streams
streams_from streams (chunk c ∷ items) = streams_from (taken streams c) items
streams_from streams (size new ∷ items) = streams_from streams items

-- each chunk fits the chunk size in force and its stream
abbrev pub FitFrom : (size : ℕ) → (ℕ → Stream) → List Item → Type 0
FitFrom now streams [] = Unit {0}
FitFrom now streams (chunk c ∷ items) = Fits now (streams c.id) c × FitFrom now (taken streams c) items
FitFrom now streams (size new ∷ items) = FitFrom new streams items

-- from the start, when all streams are silent and the chunk size is 128
abbrev pub quiet : ℕ → Stream
quiet id = silent

abbrev pub means : List Item → List Message
means items = means_from quiet items

abbrev pub streams : List Item → ℕ → Stream
streams items = streams_from quiet items

abbrev pub AllFit : List Item → Type 0
AllFit items = FitFrom initial_size quiet items

-- the chunk size in force after items
abbrev pub size_from : (now : ℕ) → List Item → ℕ
size_from now [] = now
size_from now (chunk c ∷ items) = size_from now items
size_from now (size new ∷ items) = size_from new items

-- one stream's own chunks, and what they alone make of it
abbrev pub if_own : (id : ℕ) → Chunk → List Chunk → List Chunk
if_own id c cs = cond (eqb id c.id) (c ∷ cs) cs

abbrev pub own : (id : ℕ) → List Item → List Chunk
own id [] = []
own id (chunk c ∷ items) = if_own id c (own id items)
own id (size new ∷ items) = own id items

abbrev pub alone : Stream → List Chunk → Stream
alone s [] = s
alone s (c ∷ cs) = alone (takes s c) cs

abbrev pub hands_alone : Stream → List Chunk → List Message
hands_alone s [] = []
hands_alone s (c ∷ cs) = listed (hands s c) ++ hands_alone (takes s c) cs

-- the streams on which chunks have come, each once, in the order of their first chunks
abbrev pub opened_from : (ids : List ℕ) → List Item → List ℕ
opened_from ids [] = ids
opened_from ids (chunk c ∷ items) = opened_from (cond (among c.id ids) ids (ids ++ (c.id ∷ []))) items
opened_from ids (size new ∷ items) = opened_from ids items

abbrev pub opened : List Item → List ℕ
opened items = opened_from [] items

-- the fields that a header has, if it has them
abbrev pub field_in : Header → Option ℕ
field_in (type0 time length type stream) = some time
field_in (type1 delta length type) = some delta
field_in (type2 delta) = some delta
field_in type3 = none

abbrev pub length_in : Header → Option ℕ
length_in (type0 time length type stream) = some length
length_in (type1 delta length type) = some length
length_in (type2 delta) = none
length_in type3 = none

abbrev pub type_in : Header → Option ℕ
type_in (type0 time length type stream) = some type
type_in (type1 delta length type) = some type
type_in (type2 delta) = none
type_in type3 = none

abbrev pub stream_in : Header → Option ℕ
stream_in (type0 time length type stream) = some stream
stream_in (type1 delta length type) = none
stream_in (type2 delta) = none
stream_in type3 = none

-- the number of a field in the last chunk that has it; before the first, 0
abbrev pub last_or : (before : ℕ) → (Header → Option ℕ) → List Chunk → ℕ
last_or before field [] = before
last_or before field (c ∷ cs) = last_or (get_or (field c.header) before) field cs

abbrev pub said_last : (Header → Option ℕ) → List Chunk → ℕ
said_last field chunks = last_or 0 field chunks

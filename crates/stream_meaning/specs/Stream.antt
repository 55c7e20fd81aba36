-- What a chunk does to its chunk stream, and which message it ends (Adobe 5.3.1; document 01, "A chunk on the wire" and "Decoder").
use Rattle.std.specs.Prelude.{ℕ, ◌-◌, ◌^◌, ◌<◌, min, Bool, cond, List, [], ◌++◌, ◌≢◌, ◌≡◌, ltb, length}
use Rattle.std.proofs.Math.Option.{Option, none, some, get_or}
use Rattle.time.specs.Clock.{sum}
use Rattle.chunk_header.specs.Layout.{Chunk, FormFits, Header, HeaderFits, type0, type1, type2, type3, Extended, absent, present}
use Rattle.chunk_header.specs.Limits.{max_field}

-- what the chunks of a stream have said last: the time, the 24-bit field of a time or delta, and the message's length, type and stream
pub record Said : Type 0 where
  pub time : ℕ
  pub field : ℕ
  pub length : ℕ
  pub type : ℕ
  pub stream : ℕ

pub record Message : Type 0 where
  pub type : ℕ
  pub stream : ℕ
  pub time : ℕ
  pub payload : List ℕ

-- a chunk stream: what was said on it, if anything was, and the payload so far of its message, if one is unfinished
pub record Stream : Type 0 where
  pub stored : Option Said
  pub come : Option (List ℕ)

abbrev pub silent : Stream
silent = record { stored = none; come = none }

abbrev pub said : (time field length type stream : ℕ) → Said
said time field length type stream = record { time = time; field = field; length = length; type = type; stream = stream }

-- a header says its fields, and leaves the others as they were said before (5.3.1.2.1 to 5.3.1.2.4)
abbrev pub carries : Header → Said → Said
carries (type0 time length type stream) s = said s.time time length type stream
carries (type1 delta length type) s = said s.time delta length type s.stream
carries (type2 delta) s = said s.time delta s.length s.type s.stream
carries type3 s = s

-- the number that a chunk says of the time: its extended time, or else the field (5.3.1.3)
abbrev pub number : Extended → (field : ℕ) → ℕ
number absent field = field
number (present time) field = time

-- "Type 0 sets the time. Other types add the delta ..
abbrev pub clock : Header → (before number : ℕ) → ℕ
clock (type0 time length type stream) before number = number
clock (type1 delta length type) before number = sum before number
clock (type2 delta) before number = sum before number
clock type3 before number = sum before number

-- .. once, at the first chunk of a message"
abbrev pub time_by : (come : Option (List ℕ)) → Header → (before number : ℕ) → ℕ
time_by none header before number = clock header before number
time_by (some come) header before number = before

-- a chunk that comes to its stream. Where nothing was said before, only type 0 can come, which says all
module _ (s : Stream) (c : Chunk) where
  abbrev pub before : Said
  before = get_or s.stored (said 0 0 0 0 0)

  abbrev pub saying : Said
  saying = carries c.header before

  abbrev pub time : ℕ
  time = time_by s.come c.header before.time (number c.extended saying.field)

  -- the payload that came before it, and with it
  abbrev pub earlier : List ℕ
  earlier = get_or s.come []

  abbrev pub payload : List ℕ
  payload = earlier ++ c.payload

  -- the message lacks more
  abbrev pub lacks : Bool
  lacks = ltb (length payload) saying.length

  -- what is stored of its stream after it
  abbrev pub takes : Stream
  takes = record { stored = some (said time saying.field saying.length saying.type saying.stream); come = cond lacks (some payload) none }

  -- the message that it ends
  abbrev pub hands : Option Message
  hands = cond lacks none (some (record { type = saying.type; stream = saying.stream; time = time; payload = payload }))

-- "A time field of 16777215 means that a 4-byte extended time follows the header. A type 3 chunk carries it too when the stream's last time field was 16777215"
abbrev pub ThereWhere : Extended → (field : ℕ) → Type 0
ThereWhere absent field = field ≢ max_field
ThereWhere (present time) field = (field ≡ max_field) × (time < 2 ^ 32)

-- a chunk that can come: its id has its form, its numbers have their fields, an extended time is there exactly where it follows ..
pub record HeadFits (s : Stream) (c : Chunk) : Type 0 where
  pub form : FormFits c.form c.id
  pub fields : HeaderFits c.header
  pub extended : ThereWhere c.extended (saying s c).field

-- .. and "then comes payload: the smaller of the chunk size and what the message still lacks"
pub record Fits (size : ℕ) (s : Stream) (c : Chunk) : Type 0 where
  pub head : HeadFits s c
  pub payload_of : length c.payload ≡ min size ((saying s c).length - length (earlier s c))

-- User control bodies (document 01, "User control bodies"; Adobe 6.2 and 7.1.7, but codes 31 and 32 are the Rust's).
use Rattle.std.specs.Prelude.{ℕ, List, [], ◌∷◌, ◌++◌}
use Rattle.fields.specs.Endian.{big_endian}
use Rattle.user_control.specs.declared.UserControlEvent.{UserControlEvent}
use Rattle.user_control.specs.declared.UserControlEvent.TheVariants.{
  StreamBegin,
  StreamEof,
  StreamDry,
  SetBufferLength,
  StreamIsRecorded,
  PingRequest,
  PingResponse,
  BufferEmpty,
  BufferReady,
}

-- each event's code ..
abbrev pub code : UserControlEvent → ℕ
code (StreamBegin stream) = 0
code (StreamEof stream) = 1
code (StreamDry stream) = 2
code (SetBufferLength stream length) = 3
code (StreamIsRecorded stream) = 4
code (PingRequest time) = 6
code (PingResponse time) = 7
code (BufferEmpty stream) = 31
code (BufferReady stream) = 32

-- .. and its numbers, in their order on the wire
abbrev pub numbers : UserControlEvent → List ℕ
numbers (StreamBegin stream) = stream ∷ []
numbers (StreamEof stream) = stream ∷ []
numbers (StreamDry stream) = stream ∷ []
numbers (SetBufferLength stream length) = stream ∷ length ∷ []
numbers (StreamIsRecorded stream) = stream ∷ []
numbers (PingRequest time) = time.value ∷ []
numbers (PingResponse time) = time.value ∷ []
numbers (BufferEmpty stream) = stream ∷ []
numbers (BufferReady stream) = stream ∷ []

-- numbers of four bytes, one after the other
abbrev pub fours : List ℕ → List ℕ
fours [] = []
fours (n ∷ ns) = big_endian 4 n ++ fours ns

-- "two-byte code, then big-endian numbers"
abbrev pub body_of : (code : ℕ) → (numbers : List ℕ) → List ℕ
body_of c ns = big_endian 2 c ++ fours ns

abbrev pub body : UserControlEvent → List ℕ
body e = body_of (code e) (numbers e)

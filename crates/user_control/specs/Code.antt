-- The codes by their numbers, and what a number of two bytes names.
use Rattle.std.specs.Prelude.{◌≡◌, ℕ, false, Result, Ok, Err}
use Rattle.user_control.specs.declared.code.Code.{Code}
use Rattle.user_control.specs.declared.code.Code.TheVariants.{
  StreamBegin,
  StreamEof,
  StreamDry,
  SetBufferLength,
  StreamIsRecorded,
  PingRequest,
  PingResponse,
  BufferEmpty,
  BufferReady,
}
use Rattle.user_control.specs.declared.error.ReadError.{ReadError}
use Rattle.user_control.specs.declared.error.ReadError.TheVariants.{UnknownCode}
use Rattle.user_control.specs.Reading.{known}

abbrev pub number_of : Code → ℕ
number_of StreamBegin = 0
number_of StreamEof = 1
number_of StreamDry = 2
number_of SetBufferLength = 3
number_of StreamIsRecorded = 4
number_of PingRequest = 6
number_of PingResponse = 7
number_of BufferEmpty = 31
number_of BufferReady = 32

-- what a number names: the code that has it, where there is one
abbrev pub Names : (number : ℕ) → Result Code ReadError → Type 0
Names n (Ok c) = number_of c ≡ n
Names n (Err e) = (e ≡ UnknownCode) × (known n ≡ false)

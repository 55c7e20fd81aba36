-- What a fresh decoder of room 64 hands out last, fed packets one after the other with the same 64 bytes of payload buffer.
use Rattle.std.specs.Prelude.{ℕ, List, [], ◌∷◌, ◌++◌, take, replicate}
use Rattle.decoding.specs.Decoder.{Decoder}
use Rattle.decoding.specs.Answer.{Listed, message, more, refused}
use Rattle.decoding.specs.Call.{next}
use Rattle.decoding.specs.Told.{made}

-- type, stream, timestamp, length and bytes used of a message, then its payload; the numbers of any other answer
abbrev values : Listed → List ℕ → List ℕ
values (message type stream time length used) payload = (type ∷ stream ∷ time ∷ length ∷ used ∷ []) ++ take length payload
values (more used) payload = used ∷ []
values (refused number used) payload = number ∷ used ∷ []

abbrev last : Decoder → List ℕ → List ℕ → List (List ℕ) → List ℕ
last d payload input [] = values (next d input payload).answer (next d input payload).payload
last d payload input (piece ∷ rest) = last (next d input payload).deserializer (next d input payload).payload piece rest

abbrev pub decoded : List ℕ → List (List ℕ) → List ℕ
decoded input inputs = last (made 64).deserializer (replicate 64 0) input inputs

-- Payload bytes: when one may come, and what so many of them do.
use Rattle.std.specs.Prelude.{ℕ, ◌+◌, ◌-◌, Bool, cond, not, ◌&&◌, ltb, leb, eqb}
use Rattle.byte_machine.specs.Reader.{Reader, Stepped, current, ended, go, paused, reader, unfinished}

-- a reader in a payload lacks a byte at least, and its chunk ends within the room; no call makes another one
unfoldable pub pays : (room : ℕ) → Reader → Bool
pays room r = not (eqb r.chunk.left 0) && leb (r.message.got + r.chunk.left) room

-- so many bytes of the message, and so many that the chunk lacks
abbrev pub paid : Reader → (got left : ℕ) → Reader
paid r got left =
    let c = r.chunk in
    reader r.stage (current c.format c.place c.before c.header left) (unfinished r.message.id got)

-- a reader that has just taken payload: in its chunk still, between chunks, or at its message's end
abbrev pub settle : Reader → Stepped
settle r =
    cond (eqb r.chunk.left 0)
    (cond (ltb r.message.got r.chunk.header.message_length) (paused r r.message.got) (ended r))
    (go r)

-- after n bytes of payload
unfoldable pub landed : Reader → (n : ℕ) → Stepped
landed r n = settle (paid r (r.message.got + n) (r.chunk.left - n))

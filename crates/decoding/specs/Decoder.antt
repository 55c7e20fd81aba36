-- What a decoder is, however it is kept: its setting, the number that it is closed with (0: it is open), the reader of one byte
-- after the other, and the table of rows.
use Rattle.std.specs.Prelude.{ℕ, List}
use Rattle.byte_machine.specs.Reader.{Reader}
use Rattle.byte_machine.specs.Setting.{Setting}

pub record Decoder : Type 0 where
  pub setting : Setting
  pub closed : ℕ
  pub reader : Reader
  pub rows : List ℕ

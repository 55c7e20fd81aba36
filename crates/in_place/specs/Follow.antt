-- Further chunks of a message in one run, over numbers: when they may follow, and what a run of them ensures.
use Rattle.std.specs.Prelude.{ℕ, ◌-◌, ◌≤◌, min, Bool, false, true, List, ◌≢◌, ◌≡◌, drop, get_or, length}
use Rattle.chunk_header.specs.declared.ChunkHeaderFormat.TheVariants.{Empty}
use Rattle.chunk_header.specs.Limits.{max_field}
use Rattle.chunk_meaning.specs.Stored.{Row}
use Rattle.byte_machine.specs.Rows.{is_own, put_row}
use Rattle.decoding.specs.Call.{run}
use Rattle.decoding.specs.Further.{Amid, Next, gone}
use Rattle.decoding.specs.Decoder.{Decoder}
use Rattle.held.specs.declared.numbers.Held.{Held}
use Rattle.held.specs.declared.numbers.HeldRow.{HeldRow}
use Rattle.held.specs.declared.stage.Stage.TheVariants.{Csid as AtCsid}
use Rattle.held.specs.Numbers.{again, decode}
use Rattle.in_place.specs.declared.further.Gone.{Gone}

-- between two chunks of a message whose stream's id fits one byte
pub record Paused (held : List ℕ) : Type 0 where
  pub stage : get_or held 3 0 ≡ 0
  pub least : 2 ≤ get_or held 9 0
  pub most : get_or held 9 0 ≤ 63

abbrev pub Apart : Bool → (held : List ℕ) → Type 0
Apart b held = b ≡ false → Paused held

-- a row that stays as it is where it is put over itself, without extended time, of a message within the room
pub record Plain (rows : List ℕ) (place : ℕ) (row : HeldRow) (room : ℕ) : Type 0 where
  pub own : is_own rows place ≡ true
  pub plain : row.field ≢ max_field
  pub fits : row.length ≤ room

abbrev pub Other : Bool → (rows : List ℕ) → (place : ℕ) → HeldRow → (room : ℕ) → Type 0
Other b rows place row room = b ≡ false → Plain rows place row room

-- so many chunks taken: of whatever decoder stands between two chunks of that message, nothing else changes
pub record Goes (g : Gone) (size id long come : ℕ) (input : List ℕ) (start : ℕ) (payload payload' : List ℕ) : Type 0 where
  pub on : start ≤ g.at
  pub within : g.at ≤ length input
  pub still : g.at ≡ start → g.got ≡ come
  pub none : g.at ≡ start → payload' ≡ payload
  pub first : g.at ≢ start → Next input start id come long (min size (long - come))
  pub runs : (d : Decoder) (place : ℕ) (r : Row) → d.setting.size ≡ size → r.id ≡ id → r.message_length ≡ long
      → Amid (gone d place r come) place r
      → put_row d.rows place r ≡ d.rows
      → run (drop start input) (gone d place r come) payload start
      ≡ run (drop g.at input) (gone d place r g.got) payload' g.at

-- after a chunk that has ended, the run goes on after those that follow
pub record Follows (r : ℕ) (held rows input : List ℕ) (at : ℕ) (payload held' payload' : List ℕ) : Type 0 where
  pub on : at ≤ r
  pub within : r ≤ length input
  pub room : get_or held' 0 0 ≡ get_or held 0 0
  pub kept : held ≡ again held → held' ≡ again held'
  pub runs : run (drop at input) (decode held rows) payload at ≡ run (drop r input) (decode held' rows) payload' r

-- the numbers after them
abbrev pub gone_to : (held : List ℕ) → (place : ℕ) → HeldRow → (got : ℕ) → Held
gone_to held place row got = record {
  room = get_or held 0 0;
  size = get_or held 1 0;
  closed = get_or held 2 0;
  stage = AtCsid;
  format = Empty;
  place = place;
  left = 0;
  id = get_or held 9 0;
  got = got;
  before = row;
  header = row;
}

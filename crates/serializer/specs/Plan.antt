-- The packet that a plan is of.
use Rattle.std.specs.Prelude.{ℕ, List}
use Rattle.serializer.specs.declared.plan.Plan.{Plan}
use Rattle.serializer.specs.Packet.{chunked}

-- the payload in chunks of the plan's size, the first in a format of its own
abbrev pub bytes_of : Plan → List ℕ
bytes_of p = chunked p.first.format p.later p.first.header p.size p.payload.now

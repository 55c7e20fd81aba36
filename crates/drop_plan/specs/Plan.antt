-- What the planner proposes: it "drops the oldest droppable packets until the rest fits", and "says can't exactly when" those that are not
-- droppable don't fit.
use Rattle.std.specs.Prelude.{ℕ, zero, suc, Bool, false, not, cond, ◌||◌, List, [], ◌∷◌, leb, ltb, length, get_or, replicate}
use Rattle.fields.specs.Cases.{◌when◌, first}
use Rattle.fields.specs.Output.{over}
use Rattle.drop_plan.specs.Answer.{Outcome, Answer, keep, cannot, unplanned}
use Rattle.drop_plan.specs.Queue.{Queue, droppable, most, places, size, those, total}

-- "the undroppable ones"
abbrev pub undroppable : Queue → List ℕ
undroppable q = those (λ p. not (droppable q p)) (places q)

-- what stays where the droppable packets before a place, `start`, are dropped
abbrev pub staying : (marks : List Bool) → (start place : ℕ) → Bool
staying marks start p = leb start p || not (get_or marks p false)

abbrev pub rest : Queue → (start : ℕ) → List ℕ
rest q start = those (staying q.marks start) (places q)

-- the first place from `start` on, n further ones at most, before which they have to be dropped for the rest to fit
unfoldable pub until : (n : ℕ) → Queue → (limit start : ℕ) → ℕ
until zero q limit start = start
until (suc n) q limit start = cond (leb (total q.lengths (rest q start)) limit) start (until n q limit (suc start))

abbrev pub plan : Queue → (limit : ℕ) → List ℕ
plan q limit = rest q (until (size q) q limit 0)

-- "its places stand in an array of 64 beside the answer": the others are 0
abbrev pub beside : Answer → List ℕ → Outcome
beside answer proposal = record { answer = answer; places = over proposal (replicate most 0) }

abbrev pub proposed : List ℕ → Outcome
proposed proposal = beside (keep (length proposal)) proposal

unfoldable pub planned : Queue → (limit : ℕ) → Outcome
planned q limit =
    first (beside (unplanned 24) [] when ltb most (size q)
    ∷ beside cannot [] when ltb limit (total q.lengths (undroppable q))
    ∷ [])
    (proposed (plan q limit))

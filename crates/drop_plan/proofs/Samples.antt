-- Small queues, computed: each condition broken alone and two at once, and plans at the limit and one byte below it.
use Rattle.std.proofs.Common.{true, false, List, [], ◌∷◌, ◌≡◌, refl, ℕ, replicate}
use Rattle.drop_plan.specs.Answer.{Judgement, Outcome, accepted, cannot, refused, unplanned}
use Rattle.drop_plan.specs.Check.{among, every, includes, judged, rising, within}
use Rattle.drop_plan.specs.Plan.{beside, planned, proposed, until}
use Rattle.drop_plan.specs.Queue.{Queue, places_from, queue, those, total}

-- packets of 10, 20, 30 and 40 bytes; the first and the third are droppable, and the fourth has no mark
abbrev four : Queue
four = queue (10 ∷ 20 ∷ 30 ∷ 40 ∷ []) (true ∷ false ∷ true ∷ [])

abbrev of_size : ℕ → Queue
of_size n = queue (replicate n 4294967295) []

-- proposals and what the check says
abbrev judgements : List Judgement
judgements =
    judged four 90 (1 ∷ 2 ∷ 3 ∷ [])
    ∷ judged four 89 (1 ∷ 2 ∷ 3 ∷ [])
    ∷ judged four 60 (1 ∷ 3 ∷ [])
    ∷ judged four 90 (1 ∷ 1 ∷ 3 ∷ [])
    ∷ judged four 90 (3 ∷ 1 ∷ [])
    ∷ judged four 90 (1 ∷ 3 ∷ 4 ∷ [])
    ∷ judged four 90 (0 ∷ 1 ∷ 2 ∷ [])
    -- 20 before 21, 21 before 22, 22 before 23, 24 before all
    ∷ judged four 90 (70 ∷ 3 ∷ [])
    ∷ judged four 90 (70 ∷ [])
    ∷ judged four 0 (3 ∷ [])
    ∷ judged (of_size 65) 0 (70 ∷ 3 ∷ [])
    ∷ judged (of_size 64) 274877906880 (places_from 0 64)
    ∷ judged (of_size 64) 274877906879 (places_from 0 64)
    ∷ judged (queue [] []) 0 []
    ∷ []

pub judged_so : judgements
    ≡ accepted ∷ refused 23 ∷ accepted ∷ refused 20 ∷ refused 20 ∷ refused 21 ∷ refused 22 ∷ refused 20 ∷ refused 21 ∷ refused 22 ∷ refused 24
    ∷ accepted ∷ refused 23 ∷ accepted ∷ []
unfolding judged rising within includes every among total places_from
judged_so = refl

-- limits and what the planner says
abbrev plans : List Outcome
plans =
    planned four 100
    ∷ planned four 99
    ∷ planned four 90
    ∷ planned four 89
    ∷ planned four 60
    ∷ planned four 59
    ∷ planned (of_size 65) 0
    ∷ planned (queue [] []) 0
    -- those of length 0 too, and no more once the rest fits
    ∷ planned (queue (0 ∷ 5 ∷ 0 ∷ 7 ∷ []) (true ∷ true ∷ true ∷ true ∷ [])) 7
    ∷ []

pub planned_so : plans
    ≡ proposed (0 ∷ 1 ∷ 2 ∷ 3 ∷ [])
    ∷ proposed (1 ∷ 2 ∷ 3 ∷ [])
    ∷ proposed (1 ∷ 2 ∷ 3 ∷ [])
    ∷ proposed (1 ∷ 3 ∷ [])
    ∷ proposed (1 ∷ 3 ∷ [])
    ∷ beside cannot []
    ∷ beside (unplanned 24) []
    ∷ proposed []
    ∷ proposed (2 ∷ 3 ∷ [])
    ∷ []
unfolding planned until those total places_from
planned_so = refl

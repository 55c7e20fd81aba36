-- What a plan is good for, said without the way it is made.
use Rattle.std.specs.Prelude.{ℕ, ◌+◌, ◌≤◌, ◌<◌, true, List, [], ◌↔◌, ◌≡◌}
use Rattle.drop_plan.specs.Answer.{accepted, cannot, unplanned}
use Rattle.drop_plan.specs.Check.{judged}
use Rattle.drop_plan.specs.Conditions.{◌∈◌}
use Rattle.drop_plan.specs.Plan.{beside, plan, planned, proposed, undroppable}
use Rattle.drop_plan.specs.Queue.{Queue, droppable, length_at, most, size, total}

-- a packet of the queue that is dropped
abbrev pub Dropped : Queue → List ℕ → (place : ℕ) → Type 0
Dropped q proposal p = (p < size q) × ¬ (p ∈ proposal)

pub record Good (q : Queue) (limit : ℕ) (proposal : List ℕ) : Type 0 where
  -- "is always accepted"
  pub accepts : judged q limit proposal ≡ accepted
  -- "drops the oldest": each is older than every droppable one that is kept
  pub oldest : (p k : ℕ) → Dropped q proposal p → k ∈ proposal → droppable q k ≡ true → p < k
  -- "until the rest fits": with the last one that was dropped back, it does not
  pub needed : (p : ℕ) → Dropped q proposal p → ((k : ℕ) → Dropped q proposal k → k ≤ p) → limit < length_at q p + total q.lengths proposal

pub record Plans (q : Queue) (limit : ℕ) : Type 0 where
  pub too_many : planned q limit ≡ beside (unplanned 24) [] ↔ most < size q
  pub cannots : planned q limit ≡ beside cannot [] ↔ ((size q ≤ most) × (limit < total q.lengths (undroppable q)))
  pub keeps : planned q limit ≡ proposed (plan q limit) ↔ ((size q ≤ most) × (total q.lengths (undroppable q) ≤ limit))
  pub good : size q ≤ most → total q.lengths (undroppable q) ≤ limit → Good q limit (plan q limit)

-- and these say all: no other proposal is good
abbrev pub OnlyPlan : Type 0
OnlyPlan = (q : Queue) (limit : ℕ) (proposal : List ℕ) → Good q limit proposal → proposal ≡ plan q limit

abbrev pub PlannerPlans : Type 0
PlannerPlans = (q : Queue) (limit : ℕ) → Plans q limit

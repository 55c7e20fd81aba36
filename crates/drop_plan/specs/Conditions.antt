-- When a proposal is accepted, in document 02's words, and that the check says so: "accepted exactly when places rise strictly, lie in
-- the queue, include every packet that isn't droppable, and the kept lengths add up to at most the limit; otherwise refused with the
-- first of these that is broken, numbered 20 to 23 in this order. A queue over 64 is 24, first of all".
use Rattle.std.specs.Prelude.{ℕ, ◌≤◌, ◌<◌, false, List, [], ◌∷◌, ◌↔◌, ◌⊎◌, ◌≡◌, length, get_or}
use Rattle.drop_plan.specs.Answer.{Judgement, accepted, refused}
use Rattle.drop_plan.specs.Check.{judged}
use Rattle.drop_plan.specs.Queue.{Queue, droppable, most, size, total}

infix 50 ◌∈◌
abbrev pub ◌∈◌ : ℕ → List ℕ → Type 0
p ∈ [] = ⊥
p ∈ (k ∷ ks) = (p ≡ k) ⊎ (p ∈ ks)

-- "places rise strictly"
abbrev pub Rise : List ℕ → Type 0
Rise proposal = (i j : ℕ) → i < j → j < length proposal → get_or proposal i 0 < get_or proposal j 0

-- "lie in the queue"
abbrev pub LieIn : Queue → List ℕ → Type 0
LieIn q proposal = (p : ℕ) → p ∈ proposal → p < size q

-- "include every packet that isn't droppable"
abbrev pub Include : Queue → List ℕ → Type 0
Include q proposal = (p : ℕ) → p < size q → droppable q p ≡ false → p ∈ proposal

-- "the kept lengths add up to at most the limit"
abbrev pub Fit : Queue → (limit : ℕ) → List ℕ → Type 0
Fit q limit proposal = total q.lengths proposal ≤ limit

-- a condition, and the number of the refusal where it is broken
infix 40 ◌unless◌
pub data Condition : Type 1 where
  ◌unless◌ : (number : ℕ) → Type 0 → Condition

abbrev pub conditions : Queue → (limit : ℕ) → (proposal : List ℕ) → List Condition
conditions q limit proposal =
    (24 unless (size q ≤ most))
    ∷ (20 unless Rise proposal)
    ∷ (21 unless LieIn q proposal)
    ∷ (22 unless Include q proposal)
    ∷ (23 unless Fit q limit proposal)
    ∷ []

abbrev pub AllHold : List Condition → Type 0
AllHold [] = Unit {0}
AllHold ((n unless P) ∷ cs) = P × AllHold cs

-- the first condition that is broken has this number
abbrev pub FirstBroken : (number : ℕ) → List Condition → Type 0
FirstBroken n [] = ⊥
FirstBroken n ((k unless P) ∷ cs) = ((n ≡ k) × ¬ P) ⊎ (P × FirstBroken n cs)

-- a judgement by conditions in an order
pub record Judges (cs : List Condition) (j : Judgement) : Type 0 where
  pub accepts : j ≡ accepted ↔ AllHold cs
  pub refuses : (n : ℕ) → j ≡ refused n ↔ FirstBroken n cs

abbrev pub CheckJudges : Type 0
CheckJudges = (q : Queue) (limit : ℕ) (proposal : List ℕ) → Judges (conditions q limit proposal) (judged q limit proposal)

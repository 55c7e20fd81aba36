-- What the check says of a proposal: document 02's numbers in its order, of which the first that applies decides. What each test
-- decides is said in specs/Conditions.antt.
use Rattle.std.specs.Prelude.{ℕ, Bool, true, false, not, ◌&&◌, ◌||◌, List, [], ◌∷◌, eqb, ltb}
use Rattle.fields.specs.Cases.{◌when◌, first}
use Rattle.drop_plan.specs.Answer.{Judgement, accepted, refused}
use Rattle.drop_plan.specs.Queue.{Queue, droppable, most, places, size, total}

-- every number passes a test
unfoldable pub every : (ℕ → Bool) → List ℕ → Bool
every test [] = true
every test (p ∷ ps) = test p && every test ps

unfoldable pub among : (place : ℕ) → (proposal : List ℕ) → Bool
among p [] = false
among p (k ∷ ks) = eqb k p || among p ks

-- each is greater than the one before it
unfoldable pub rising : (proposal : List ℕ) → Bool
rising [] = true
rising (p ∷ []) = true
rising (p ∷ k ∷ ks) = ltb p k && rising (k ∷ ks)

unfoldable pub within : (size : ℕ) → (proposal : List ℕ) → Bool
within n proposal = every (λ p. ltb p n) proposal

unfoldable pub includes : Queue → (proposal : List ℕ) → Bool
includes q proposal = every (λ p. droppable q p || among p proposal) (places q)

unfoldable pub judged : Queue → (limit : ℕ) → (proposal : List ℕ) → Judgement
judged q limit proposal =
    first (refused 24 when ltb most (size q)
    ∷ refused 20 when not (rising proposal)
    ∷ refused 21 when not (within (size q) proposal)
    ∷ refused 22 when not (includes q proposal)
    ∷ refused 23 when ltb limit (total q.lengths proposal)
    ∷ [])
    accepted

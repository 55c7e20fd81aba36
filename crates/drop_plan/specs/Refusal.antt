-- The refusals' numbers, as document 02 gives them.
use Rattle.std.specs.Prelude.{ℕ, List, codes}
use Rattle.drop_plan.specs.declared.error.PlanError.{PlanError}
use Rattle.drop_plan.specs.declared.error.PlanError.TheVariants.{OverLimit, PlaceOutsideQueue, PlacesDoNotRise, QueueTooLong, UndroppableLeftOut}

abbrev pub number_of : PlanError → ℕ
number_of PlacesDoNotRise = 20
number_of PlaceOutsideQueue = 21
number_of UndroppableLeftOut = 22
number_of OverLimit = 23
number_of QueueTooLong = 24

-- what it is printed as
abbrev pub text_of : PlanError → List ℕ
text_of PlacesDoNotRise = codes "places do not rise"
text_of PlaceOutsideQueue = codes "a place lies outside the queue"
text_of UndroppableLeftOut = codes "an undroppable packet is left out"
text_of OverLimit = codes "the kept lengths are over the limit"
text_of QueueTooLong = codes "the queue has more than 64 packets"

-- Both listings decide their answers, since these can be told from them.
use Rattle.std.proofs.Common.{ℕ, cond, eqb, ◌≡◌, refl, ap, List, length, take, drop, replicate, Option, None, Some, Result, Ok, Err}
use Rattle.std.proofs.Math.Seq.{take-append_seam}
use Rattle.fields.specs.Deciding.{Decides}
use Rattle.fields.proofs.Deciding.{told_decides}
use Rattle.drop_plan.specs.declared.error.PlanError.{PlanError}
use Rattle.drop_plan.specs.declared.error.PlanError.TheVariants.{OverLimit, PlaceOutsideQueue, PlacesDoNotRise, QueueTooLong, UndroppableLeftOut}
use Rattle.drop_plan.specs.Answer.{Answer, Judgement, Outcome, accepted, cannot, keep, outcome_of, refused, unplanned, verdict_of}
use Rattle.drop_plan.specs.Queue.{most}
use Rattle.drop_plan.specs.Refusal.{number_of}

-- the refusal with a number; another number is no refusal's
abbrev refusal : ℕ → PlanError
refusal n = cond (eqb n 20) PlacesDoNotRise (cond (eqb n 21) PlaceOutsideQueue (cond (eqb n 22) UndroppableLeftOut (cond (eqb n 23) OverLimit QueueTooLong)))

refusal_back : (e : PlanError) → refusal (number_of e) ≡ e
refusal_back PlacesDoNotRise = refl
refusal_back PlaceOutsideQueue = refl
refusal_back UndroppableLeftOut = refl
refusal_back OverLimit = refl
refusal_back QueueTooLong = refl

abbrev verdict : Judgement → Result (Unit {0}) PlanError
verdict accepted = Ok tt
verdict (refused n) = Err (refusal n)

verdict_back : (r : Result (Unit {0}) PlanError) → verdict (verdict_of r) ≡ r
verdict_back (Ok u) = refl
verdict_back (Err e) = ap (λ (x : PlanError). Err x) (refusal_back e)

pub verdict_decides : Decides verdict_of
verdict_decides = told_decides verdict_of verdict verdict_back

abbrev told : (answer : Answer) → (places : List ℕ) → Result (Option (List ℕ)) PlanError
told (keep n) places = Ok (Some (take n places))
told cannot places = Ok None
told (unplanned n) places = Err (refusal n)

abbrev tell : Outcome → Result (Option (List ℕ)) PlanError
tell o = told o.answer o.places

tell_back : (r : Result (Option (List ℕ)) PlanError) → tell (outcome_of r) ≡ r
tell_back (Ok (Some kept)) =
    let zeros : List ℕ = replicate most 0 in
    ap (λ (ks : List ℕ). Ok (Some ks)) (take-append_seam kept (drop (length kept) zeros))
tell_back (Ok None) = refl
tell_back (Err e) = ap (λ (x : PlanError). Err x) (refusal_back e)

pub proposal_decides : Decides outcome_of
proposal_decides = told_decides outcome_of tell tell_back

-- Each answer's number and values, as document 02 lists them. Every promise of this crate goes through these.
use Rattle.std.specs.Prelude.{ℕ, List, Option, None, Some, Result, Ok, Err, length, replicate}
use Rattle.fields.specs.Output.{over}
use Rattle.drop_plan.specs.declared.error.PlanError.{PlanError}
use Rattle.drop_plan.specs.Queue.{most}
use Rattle.drop_plan.specs.Refusal.{number_of}

-- the check's
pub data Judgement : Type 0 where
  accepted : Judgement
  refused : (number : ℕ) → Judgement

abbrev pub verdict_of : Result (Unit {0}) PlanError → Judgement
verdict_of (Ok _) = accepted
verdict_of (Err e) = refused (number_of e)

-- the planner's
pub data Answer : Type 0 where
  -- so many places
  keep : (count : ℕ) → Answer
  cannot : Answer
  unplanned : (number : ℕ) → Answer

-- the planner's answer, and the array beside it
pub record Outcome : Type 0 where
  pub answer : Answer
  pub places : List ℕ

-- the array of `Places::as_array`; without places it is 0 throughout
abbrev pub outcome_of : Result (Option (List ℕ)) PlanError → Outcome
outcome_of (Ok (Some kept)) = record { answer = keep (length kept); places = over kept (replicate most 0) }
outcome_of (Ok None) = record { answer = cannot; places = replicate most 0 }
outcome_of (Err e) = record { answer = unplanned (number_of e); places = replicate most 0 }

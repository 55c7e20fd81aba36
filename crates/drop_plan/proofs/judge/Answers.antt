-- Places that rise in a queue of at most 64 are at most 64, so that their lengths can be added up.
use Rattle.std.proofs.Common.{sym, ◌∙◌, arith}
use Rattle.drop_plan.specs.Queue.{size}
use Rattle.drop_plan.proofs.Conditions.{few_judged}
use Rattle.drop_plan.proofs.judge.Goals as goal

pub kept_length-requires : goal.kept_length-requires
kept_length-requires c =
    omega (arith, c.in_ok-queue.ensures.1, few_judged (size c.in_ok-queue.queue) c.args.places.now (sym c.rise.ensures ∙ c.if-not-rise.false) (sym c.reaches.ensures ∙ c.if-not-reaches.false))

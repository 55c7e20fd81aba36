use Rattle.std.proofs.Common.{arith}
use Rattle.std.proofs.lemmas.Grind.{common_steps}
use Rattle.drop_plan.specs.Plan.{staying}
use Rattle.drop_plan.proofs.Filling.{filled_behind, first_behind}
use Rattle.drop_plan.proofs.Steps.{those_more}
use Rattle.drop_plan.proofs.queue.Queue.rest.Goals as goal
use Rattle.drop_plan.proofs.queue.Queue.rest.Goals.{then-stays, else-stays}

pub loop-place-preserved : goal.loop-place-preserved
loop-place-preserved c =
    let more = those_more (staying c.args.self.now.marks c.args.start) c.loop-place.place in
    elim c.if-stays.branch [
      | then-stays w ↦ grind (arith, common_steps, more, filled_behind, first_behind)
      | else-stays w ↦ grind (arith, common_steps, more)
    ]

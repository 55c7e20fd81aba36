use Rattle.std.proofs.Common.{cond, get_or, ◌∙◌, sym, rules, arith, tests}
use Rattle.std.proofs.lemmas.Iterator.{YieldsList-from_map, YieldsList-from_range}
use Rattle.std.proofs.lemmas.Iterator.Adapters.{at_most_from_yields_List, fits_from_length}
use Rattle.std.proofs.lemmas.Iterator.Consumers.{sum_by_from_yields_List}
use Rattle.std.proofs.lemmas.List.FromFn.{length-range_with_len}
use Rattle.drop_plan.specs.Plan.{staying}
use Rattle.drop_plan.specs.Queue.{size}
use Rattle.drop_plan.proofs.Lists.{total_staying}
use Rattle.drop_plan.proofs.queue.Queue.rest_length.Goals as goal

pub sum-requires-clause-fits : goal.sum-requires-clause-fits
sum-requires-clause-fits c =
    let n = size c.args.self.now in
    fits_from_length _ _ 64 _ (at_most_from_yields_List (YieldsList-from_range 0 n n (cc) (omega arith)) (omega (arith, length-range_with_len 0 n))) c.map.ensures.closure (omega arith) (λ x r q k. search (rules, tests))

pub returns : goal.returns
returns c =
    let q = c.args.self.now in
    let n = size q in
    sum_by_from_yields_List (λ p. cond (staying q.marks c.args.start p) (get_or q.lengths p 0) 0) _ _ _ c.sum.ensures.ran
    (YieldsList-from_map _ _ (YieldsList-from_range 0 n n (cc) (omega arith)) c.map.ensures.closure (λ x r f k. search rules))
    ∙ sym (total_staying q c.args.start)

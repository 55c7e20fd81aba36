use Rattle.std.proofs.Common.{rules, nat_lt}
use Rattle.std.proofs.lemmas.Fn.{always_returns_same}
use Rattle.drop_plan.proofs.Adjacent.{adjacent_rising}
use Rattle.drop_plan.proofs.judging.rise.Goals as goal

pub returns : goal.returns
returns c = adjacent_rising _ _ (c.is_sorted_by.ensures.cases nat_lt (always_returns_same _ _ _ (λ a r f k. search rules)))

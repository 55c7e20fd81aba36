use Rattle.std.proofs.Common.{nat_lt, ◌∙◌, sym, rules}
use Rattle.std.proofs.lemmas.Iterator.{YieldsList-from_slice}
use Rattle.std.proofs.lemmas.Iterator.Search.{all_from_yields_List}
use Rattle.drop_plan.specs.Check.{within}
use Rattle.drop_plan.specs.Queue.{size}
use Rattle.drop_plan.proofs.Lists.{every_all}
use Rattle.drop_plan.proofs.queue.Queue.reaches.Goals as goal

pub returns : goal.returns
unfolding within
returns c =
    all_from_yields_List (λ p. nat_lt p (size c.args.self.now)) _ _ _ c.all.ensures.ran (YieldsList-from_slice c.args.places.now cc) (λ x b q k. search rules)
    ∙ sym (every_all _ c.args.places.now)

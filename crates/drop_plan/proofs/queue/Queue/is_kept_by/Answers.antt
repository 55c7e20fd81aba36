use Rattle.std.proofs.Common.{◌||◌, ◌∙◌, sym, rules, arith}
use Rattle.std.proofs.lemmas.Iterator.{YieldsList-from_range}
use Rattle.std.proofs.lemmas.Iterator.Search.{all_from_yields_List}
use Rattle.drop_plan.specs.Check.{among, includes}
use Rattle.drop_plan.specs.Queue.{droppable, size}
use Rattle.drop_plan.proofs.Lists.{every_place}
use Rattle.drop_plan.proofs.queue.Queue.is_kept_by.Goals as goal

pub returns : goal.returns
unfolding includes
returns c =
    let q = c.args.self.now in
    all_from_yields_List (λ p. droppable q p || among p c.args.places.now) _ _ _ c.all.ensures.ran (YieldsList-from_range 0 (size q) (size q) (cc) (omega arith)) (λ x b f k. search rules)
    ∙ sym (every_place _ (size q))

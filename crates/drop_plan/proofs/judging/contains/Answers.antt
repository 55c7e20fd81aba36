use Rattle.std.proofs.Common.{◌==◌, ◌∙◌, sym, rules}
use Rattle.std.proofs.lemmas.Iterator.{YieldsList-from_slice}
use Rattle.std.proofs.lemmas.Iterator.Search.{any_from_yields_List}
use Rattle.drop_plan.proofs.Lists.{among_any}
use Rattle.drop_plan.proofs.judging.contains.Goals as goal

pub returns : goal.returns
returns c =
    any_from_yields_List (λ k. k == c.args.place) _ _ _ c.any.ensures.ran (YieldsList-from_slice c.args.places.now cc) (λ x b q k. search rules)
    ∙ sym (among_any c.args.place c.args.places.now)

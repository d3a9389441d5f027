-- Some new lot is found that fails.
use Rattle.std.proofs.Common.{rules, ap, ◌∙◌}
use Rattle.std.proofs.lemmas.Iterator.Consumers.{YieldsList-from_first, YieldsList-from_filter}
use Rattle.std.proofs.lemmas.Iterator.Search.{any_from_yields_List}
use Rattle.layout.specs.Details.{details}
use Rattle.new_lots.specs.Lots.{lots_after, lots_left, sum_fails}
use Rattle.new_lots.proofs.Sums.{fails_are}
use Rattle.new_lots.proofs.lots_fail.Goals as goal

pub returns : goal.returns
returns c =
    let a = c.args in
    let left = ap lots_left c.filter.ensures.source ∙ ap (lots_after 0 0) c.lots_of.ensures.all in
    any_from_yields_List (sum_fails a.variance a.pools_a_million) c.any.new.self _ _ c.any.ensures.ran
    (YieldsList-from_filter _ (λ s. s.new) (YieldsList-from_first (λ x. x) lots_left _ left) c.filter.ensures.closure (λ x r q k. search rules))
    (λ x b q k. search rules)
    ∙ fails_are a.variance a.pools_a_million (details a.body.now)

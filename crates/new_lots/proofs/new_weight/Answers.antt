-- The sum of the weights fits, and is that of the new lots.
use Rattle.std.proofs.Common.{rules, ap, ◌∙◌}
use Rattle.std.proofs.lemmas.Iterator.{YieldsList-from_map}
use Rattle.std.proofs.lemmas.Iterator.Consumers.{YieldsList-at, YieldsList-from_first, YieldsList-from_filter, sum_by_from_yields_List, fits_by_from_yields_list}
use Rattle.layout.specs.Details.{details}
use Rattle.new_lots.specs.Lots.{lots_after, lots_left}
use Rattle.new_lots.proofs.Sums.{sum_weight, new_sums, weights_are, weights_fit}
use Rattle.new_lots.proofs.new_weight.Goals as goal

pub sum-requires-clause-fits : goal.sum-requires-clause-fits
sum-requires-clause-fits c =
    let left = ap lots_left c.filter.ensures.source ∙ ap (lots_after 0 0) c.lots_of.ensures.all in
    fits_by_from_yields_list sum_weight (new_sums (details c.args.body.now)) c.map.result _
    (YieldsList-from_map _ sum_weight
    (YieldsList-at c.map.ensures.source
    (YieldsList-from_filter _ (λ s. s.new) (YieldsList-from_first (λ x. x) lots_left _ left) c.filter.ensures.closure (λ x r q k. search rules)))
    c.map.ensures.closure (λ x r q k. search rules))
    (weights_fit c.args.body.now)

pub returns : goal.returns
returns c =
    let left = ap lots_left c.filter.ensures.source ∙ ap (lots_after 0 0) c.lots_of.ensures.all in
    sum_by_from_yields_List sum_weight (new_sums (details c.args.body.now)) c.map.result _ c.sum.ensures.ran
    (YieldsList-from_map _ sum_weight
    (YieldsList-at c.map.ensures.source
    (YieldsList-from_filter _ (λ s. s.new) (YieldsList-from_first (λ x. x) lots_left _ left) c.filter.ensures.closure (λ x r q k. search rules)))
    c.map.ensures.closure (λ x r q k. search rules))
    ∙ weights_are (details c.args.body.now)

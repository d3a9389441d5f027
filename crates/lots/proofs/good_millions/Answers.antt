-- The sum over the pools fits, and is that over the lots.
use Rattle.std.proofs.Common.{rules, ap, ◌∙◌}
use Rattle.std.proofs.lemmas.Iterator.{YieldsList-from_map}
use Rattle.std.proofs.lemmas.Iterator.Consumers.{sum_by_from_yields_List, fits_by_from_yields_list}
use Rattle.layout.specs.Details.{details}
use Rattle.detail_reader.specs.Left.{details_left}
use Rattle.detail_reader.proofs.Left.{reads}
use Rattle.lots.proofs.Millions.{pool_millions, millions_sum, millions_fit}
use Rattle.lots.proofs.good_millions.Goals as goal

pub sum-requires-clause-fits : goal.sum-requires-clause-fits
sum-requires-clause-fits c =
    let left = ap details_left c.map.ensures.source ∙ c.pools.ensures.all in
    fits_by_from_yields_list pool_millions _ _ _
    (YieldsList-from_map _ pool_millions (reads _ left) c.map.ensures.closure (λ x r q k. search rules))
    (millions_fit c.args.body.now)

pub returns : goal.returns
returns c =
    let left = ap details_left c.map.ensures.source ∙ c.pools.ensures.all in
    sum_by_from_yields_List pool_millions (details c.args.body.now) c.map.result _ c.sum.ensures.ran
    (YieldsList-from_map _ pool_millions (reads _ left) c.map.ensures.closure (λ x r q k. search rules))
    ∙ millions_sum (details c.args.body.now)

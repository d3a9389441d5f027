-- The replacement pools are counted.
use Rattle.std.proofs.Common.{rules, ap, ◌∙◌}
use Rattle.std.proofs.lemmas.Iterator.Consumers.{YieldsList-from_filter, count_from_yields_List}
use Rattle.detail_reader.specs.Left.{details_left}
use Rattle.detail_reader.proofs.Left.{reads}
use Rattle.terminator.specs.Terminators.{is_replacement}
use Rattle.terminator.specs.Lots.{replacement_count}
use Rattle.lots.proofs.replacement_count.Goals as goal

pub returns : goal.returns
unfolding replacement_count
returns c =
    let left = ap details_left c.filter.ensures.source ∙ c.pools.ensures.all in
    count_from_yields_List c.filter.result _ c.count.ensures.ran
    (YieldsList-from_filter _ is_replacement (reads _ left) c.filter.ensures.closure (λ x r q k. search rules))

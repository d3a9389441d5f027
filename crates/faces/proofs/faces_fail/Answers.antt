-- Some new pool is found that fails.
use Rattle.std.proofs.Common.{rules, ap, ◌∙◌}
use Rattle.std.proofs.lemmas.Iterator.Consumers.{YieldsList-from_filter}
use Rattle.std.proofs.lemmas.Iterator.Search.{any_from_yields_List}
use Rattle.detail_reader.specs.Left.{details_left}
use Rattle.detail_reader.proofs.Left.{reads}
use Rattle.terminator.specs.Terminators.{is_new}
use Rattle.faces.specs.Faces.{face_fails, faces_fail}
use Rattle.faces.proofs.faces_fail.Goals as goal

pub returns : goal.returns
unfolding faces_fail
returns c =
    let left = ap details_left c.filter.ensures.source ∙ c.pools.ensures.all in
    any_from_yields_List (face_fails c.args.least) c.any.new.self _ _ c.any.ensures.ran
    (YieldsList-from_filter _ is_new (reads _ left) c.filter.ensures.closure (λ x r q k. search rules))
    (λ x b q k. search rules)

-- The records are a table of one message, in order, whose matched fields stand once where those of the new pools are distinct.
use Rattle.std.proofs.Common.{not, ap, ◌∙◌, rules}
use Rattle.layout.specs.Details.{details}
use Rattle.faces.specs.Faces.{new_pools}
use Rattle.book.specs.Soundness.{in_order, fields_once}
use Rattle.check_once.proofs.Listed.{with_order, with_once}
use Rattle.check_once.proofs.repeated.Goals as goal

pub fields_once-requires : goal.fields_once-requires
fields_once-requires c =
    let e = c.put_pools-n.ensures in
    (search rules, ap in_order e.1 ∙ with_order (new_pools (details c.args.body.now)))

pub returns : goal.returns
returns c = ap not (c.fields_once.ensures ∙ ap fields_once c.put_pools-n.ensures.1 ∙ with_once (new_pools (details c.args.body.now)))

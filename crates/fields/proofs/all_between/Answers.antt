-- Where the bytes stand there, what the chain says of them is the rest of the definition.
use Rattle.std.proofs.Common.{rules, ◌≡◌}
use Rattle.std.proofs.lemmas.Iterator.{YieldsList-from_slice}
use Rattle.std.proofs.lemmas.Iterator.Search.{all_from_yields_List}
use Rattle.lists.specs.Lists.{all, between}
use Rattle.fields.specs.Fields.{all_between}
use Rattle.fields.proofs.all_between.Goals as goal

pub returns-in-Some : goal.returns-in-Some
unfolding all_between
returns-in-Some c =
    let k : c.all.result ≡ all (between c.args.low c.args.high) c.in-Some.bytes.now =
    all_from_yields_List (between c.args.low c.args.high) _ _ _ c.all.ensures.ran (YieldsList-from_slice _ c.iter.ensures.rest) (λ x b q k. search rules) in
    let h = c.in-Some.ensures in
    rw (h.0, ← h.1) k

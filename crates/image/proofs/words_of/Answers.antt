-- Each word is the byte in its place.
use Rattle.std.proofs.Common.{arith, rules}
use Rattle.std.proofs.lemmas.List.{same_lists}
use Rattle.image.proofs.words_of.Goals as goal

pub returns : goal.returns
returns g c = same_lists _ _ (omega arith) (λ k d h. let called = (c.map.ensures.items.at k d d (omega arith)).2 in search rules)

-- What is left leads to the walk that all pools lead to.
use Rattle.std.proofs.Common.{◌≡◌}
use Rattle.lists.specs.Lists.{fold}
use Rattle.layout.specs.Details.{details}
use Rattle.detail_reader.specs.Left.{details_left}
use Rattle.lots.specs.Walks.{walk_on}
use Rattle.lots.proofs.lots_formed.Given as goal

abbrev pub invariant-loop-d : goal.invariant-loop-d
invariant-loop-d l = fold (walk_on l.cc) l.w (details_left l.d-iterator) ≡ fold (walk_on l.cc) l.initial.w (details l.body)

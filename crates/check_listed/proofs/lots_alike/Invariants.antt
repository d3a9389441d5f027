-- What is left of the pools and their cells leads to the state that all lead to, and the cell of a canceled one is a record's place.
use Rattle.std.proofs.Common.{◌≡◌, true, ℕ, ◌<◌, length}
use Rattle.std.specs.List.{AllByRecursion, zip}
use Rattle.lists.specs.Lists.{fold}
use Rattle.layout.specs.declared.Detail.{Detail}
use Rattle.layout.specs.Details.{details}
use Rattle.detail_reader.specs.Left.{details_left}
use Rattle.terminator.specs.Terminators.{is_canceled}
use Rattle.check_listed.specs.Lots.{none_alike}
use Rattle.check_listed.proofs.Passes.{liking}
use Rattle.check_listed.proofs.lots_alike.Given as goal

abbrev pub invariant-loop-d : goal.invariant-loop-d
invariant-loop-d l =
    let left = zip (details_left l.d-iterator.a) l.d-iterator.b.rest.now in
    record {
      fits : AllByRecursion (λ (p : Detail × ℕ). is_canceled p.0 ≡ true → p.1 < length l.pools) left;
      same : fold (liking l.pools) l.s left ≡ fold (liking l.pools) none_alike (zip (details l.body) l.at);
    }

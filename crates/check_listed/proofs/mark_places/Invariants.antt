-- What is left of the pools and their cells leads to the marks that all lead to; the cells are places, and the number is at most that of the pools read.
use Rattle.std.proofs.Common.{◌≡◌, true, ℕ, ◌+◌, ◌≤◌, ◌<◌, length}
use Rattle.std.specs.List.{AllByRecursion, zip}
use Rattle.lists.specs.Lists.{fold}
use Rattle.layout.specs.declared.Detail.{Detail}
use Rattle.layout.specs.Details.{details, pools_max}
use Rattle.detail_reader.specs.Left.{details_left}
use Rattle.book.specs.Opening.{records_max}
use Rattle.check_listed.proofs.Passes.{marking}
use Rattle.check_listed.proofs.mark_places.Given as goal

abbrev pub invariant-loop-d : goal.invariant-loop-d
invariant-loop-d l =
    let left = zip (details_left l.d-iterator.a) l.d-iterator.b.rest.now in
    record {
      few : l.lot + length (details_left l.d-iterator.a) ≤ pools_max + 1;
      size : length l.marks ≡ records_max;
      fits : AllByRecursion (λ (p : Detail × ℕ). p.1 < records_max) left;
      same : (fold (marking l.cc) (record { fine = l.fine; marks = l.marks }, l.lot) left).0
          ≡ (fold (marking l.cc) (record { fine = true; marks = l.initial.marks }, 1) (zip (details l.body) l.at)).0;
    }

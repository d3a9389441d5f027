-- What is left, after the pools since the last end, makes the same lots; each face is of eleven digits, and the pools are few.
use Rattle.std.proofs.Common.{◌≡◌, ◌+◌, ◌*◌, ◌≤◌, length}
use Rattle.layout.specs.Details.{pools_max}
use Rattle.detail_reader.specs.Left.{details_left}
use Rattle.new_lots.specs.Lots.{lots_after}
use Rattle.new_lots.proofs.LotsIterator.next.Given as goal

abbrev pub invariant-loop-d : goal.invariant-loop-d
invariant-loop-d l = record {
  same : lots_after l.cents l.pools (details_left l.self.pools) ≡ lots_after 0 0 (details_left l.fn.self.pools);
  fits : l.cents ≤ 100000000000 * l.pools;
  few : l.pools + length (details_left l.self.pools) ≤ pools_max;
}

abbrev pub decreases-loop-d : goal.decreases-loop-d
decreases-loop-d l = length (details_left l.self.pools)

-- The sum and what is left to add make up the standing millions, and the sum is at most 99 a record.
use Rattle.std.proofs.Common.{◌≡◌, ◌+◌, ◌*◌, ◌≤◌, drop}
use Rattle.rows.specs.Runs.{run_sum, millions_share, share_of}
use Rattle.table_figures.proofs.standing.Given as goal

abbrev pub invariant-loop-p : goal.invariant-loop-p
invariant-loop-p l = record {
  small : l.sum ≤ l.p-index * 99;
  left : l.sum + run_sum (share_of l.trade millions_share) l.before.0 l.before.1 (drop l.p-index l.live) ≡ run_sum (share_of l.trade millions_share) 0 0 l.live;
}

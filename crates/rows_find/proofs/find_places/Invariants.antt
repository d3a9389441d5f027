-- The outer loop's invariant: the cells of the pools that are passed are filled. The inner loop's: no record that it has passed, from the last match on or again from the start, has the fields.
use Prim.Native.Nat.{◌≤◌, ◌-◌, ◌+◌, suc}
use mathlib.Core.Path.{◌≡◌}
use mathlib.Core.Bool.{true, cond}
use lib.ListN.{length}
use Rattle.rows_find.proofs.Seeking.{Round, Sought}
use Rattle.rows_find.proofs.find_places.Given as goal

abbrev pub invariant-listed : goal.invariant-listed
invariant-listed l = record {
  all : l.found ≡ true;
  next : (l.run.start ≤ l.next) × (l.next ≤ l.run.stop);
  size : length l.at ≡ 250;
  sought : Sought l.body l.pools l.run l.at l.d;
}

abbrev pub invariant-live : goal.invariant-live
invariant-live l = record {
  all : l.found ≡ true;
  place : (l.run.start ≤ l.j) × (l.j ≤ l.end) × (l.end ≤ l.run.stop);
  round : Round l.pools l.pool.matched l.run.start l.run.stop l.next l.again l.end l.j;
}

abbrev pub decreases-live : goal.decreases-live
decreases-live l = (l.end - l.j) + cond l.again 0 (suc (l.next - l.run.start))

-- The frames that are left lead to the end of the day.
use Rattle.std.proofs.Common.{◌≡◌}
use Rattle.framing.specs.Following.{left, tape_of}
use Rattle.day.proofs.Turning.{OnWay}
use Rattle.day.specs.Days.{state_of}
use Rattle.day.proofs.run_day.Given as goal

abbrev pub invariant-loop-frame : goal.invariant-loop-frame
invariant-loop-frame l = record {
  same : tape_of l.frame-iterator ≡ l.tape;
  way : OnWay (state_of l.fn.book l.fn.pools) l.tape l.day l.pools (left l.frame-iterator);
}

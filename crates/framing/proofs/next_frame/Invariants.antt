-- What is left of the tape still gives the answer; the last 02 stands from the place on, and before i.
use Rattle.std.proofs.Common.{◌≡◌, ◌≤◌, ◌<◌, drop, IfSome}
use Rattle.framing.specs.Framing.{next_frame}
use Rattle.framing.proofs.Scan.{from}
use Rattle.framing.proofs.next_frame.Given as goal

abbrev pub invariant-loop-i : goal.invariant-loop-i
invariant-loop-i l = record {
  passed : IfSome l.started (λ mark. (l.at ≤ mark) × (mark < l.i));
  left : from l.started l.i (drop l.i l.tape) ≡ next_frame l.tape l.at;
}

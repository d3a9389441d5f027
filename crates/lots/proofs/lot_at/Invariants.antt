-- The pools passed are middles, and what is left gives the same lot; each face is of eleven digits.
use Rattle.std.proofs.Common.{◌≡◌, ◌*◌, ◌-◌, ◌≤◌, drop}
use Rattle.layout.specs.Details.{details}
use Rattle.terminator.specs.Lots.{lots}
use Rattle.terminator.specs.Reading.{first_lot}
use Rattle.lots.proofs.Sought.{seek}
use Rattle.lots.proofs.lot_at.Given as goal

abbrev pub invariant-loop-i : goal.invariant-loop-i
invariant-loop-i l = record {
  fits : l.faces ≤ 100000000000 * (l.i - l.first);
  same : seek l.first l.i l.faces (drop l.i (details l.body)) ≡ first_lot l.first (lots (drop l.first (details l.body)));
}

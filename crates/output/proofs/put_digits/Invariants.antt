-- The last digits of the column are written, and the list with the digits that are left to write is the list that is wanted.
use Rattle.std.proofs.Common.{◌≡◌, ◌≤◌, ◌-◌}
use Rattle.lists.specs.Lists.{pasted}
use Rattle.output.specs.Output.{digits_of}
use Rattle.output.proofs.put_digits.Given as goal

abbrev pub invariant-loop-i : goal.invariant-loop-i
invariant-loop-i l = record {
  inside : l.at ≤ l.i;
  left : pasted l.out l.at (digits_of (l.i - l.at) l.left) ≡ pasted l.initial.out l.at (digits_of l.width l.value);
}

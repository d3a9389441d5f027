-- The loop's invariant: in each array the numbers written, those of the pools to come and the zeros after them are the whole answer.
use Rattle.std.proofs.Common.{◌≡◌, ◌+◌, ◌≤◌, length, map}
use Rattle.layout.specs.Details.{details, pools_max}
use Rattle.detail_reader.specs.Left.{details_left}
use Rattle.terminator.specs.Lots.{current_cents}
use Rattle.rows_bring.specs.Staged.{padded, terminator_number}
use Rattle.rows_bring.proofs.Staging.{staging}
use Rattle.rows_bring.proofs.stage.Given as goal

abbrev pub invariant-loop-i : goal.invariant-loop-i
invariant-loop-i l =
    let i = l.i-iterator.count in
    let left = details_left l.i-iterator.iter in
    record {
      few : i + length left ≤ pools_max;
      sizes : (length l.faces ≡ pools_max) × (length l.terminators ≡ pools_max);
      faces : staging current_cents l.faces i left ≡ padded (map current_cents (details l.body));
      terminators : staging terminator_number l.terminators i left ≡ padded (map terminator_number (details l.body));
    }

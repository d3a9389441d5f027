-- The records that were kept stand first, and those not looked at are as they were.
use Rattle.rows.proofs.Closing.{Closing}
use Rattle.rows.proofs.close_up.Given as goal

abbrev pub invariant-loop-i : goal.invariant-loop-i
invariant-loop-i l = Closing l.marks l.initial.pools l.pools l.i l.kept

-- The record before is fine, and whether those that are left are fine and follow is still the answer.
use Rattle.check_soundness.proofs.Chained.{Chained}
use Rattle.check_soundness.proofs.records_fine.Given as goal

abbrev pub invariant-loop-p : goal.invariant-loop-p
invariant-loop-p l = Chained l.values l.live l.before l.rest l.p-index

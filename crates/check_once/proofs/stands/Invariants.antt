-- The records of the bucket are gone through from the last to the first, and what lies between them is in other buckets.
use Rattle.check_once.proofs.Chains.{Going}
use Rattle.check_once.proofs.stands.Given as goal

abbrev pub invariant-loop-j : goal.invariant-loop-j
invariant-loop-j l = Going l.live l.back l.i l.j

abbrev pub decreases-loop-j : goal.decreases-loop-j
decreases-loop-j l = l.j

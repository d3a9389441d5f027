-- The test says which.
use Rattle.fault.specs.Rules.{test}
use Rattle.fault.proofs.tested.Goals as goal

pub returns-then-passes : goal.returns-then-passes
unfolding test
returns-then-passes c = rw c.if-passes.true

pub returns-else-passes : goal.returns-else-passes
unfolding test
returns-else-passes c = rw c.if-passes.false

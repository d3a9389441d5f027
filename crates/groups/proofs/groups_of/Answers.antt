-- At the end nothing is left, and the groups are judged.
use Rattle.std.proofs.Common.{◌∙◌}
use Rattle.groups.proofs.Runs.{groups_end}
use Rattle.groups.proofs.groups_of.Goals as goal

pub returns : goal.returns
returns c = c.judged.ensures ∙ groups_end _ _ _ c.in-None.ensures.steps.0.0 c.loop-d.invariant.same

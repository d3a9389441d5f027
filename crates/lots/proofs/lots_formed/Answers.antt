-- At the end nothing is left, and the walk says whether the lots are formed.
use Rattle.std.proofs.Common.{◌∙◌}
use Rattle.std.proofs.Math.Bool.{not-not}
use Rattle.layout.specs.Details.{details}
use Rattle.lots.proofs.Formed.{formed_end}
use Rattle.lots.proofs.lots_formed.Goals as goal

pub returns-then-w : goal.returns-then-w
returns-then-w c =
    let e = formed_end c.args.cc c.loop-d.w _ (details c.args.body.now) c.in-None.ensures.steps.0.0 c.loop-d.invariant in
    rw (c.if-w.true, c.is_none.ensures, not-not c.is_none.result) at e

pub returns-else-w : goal.returns-else-w
returns-else-w c =
    let e = formed_end c.args.cc c.loop-d.w _ (details c.args.body.now) c.in-None.ensures.steps.0.0 c.loop-d.invariant in
    c.if-w.false ∙ rw c.if-w.false at e

-- An end closes its lot; a middle goes on with it, or begins it.
use mathlib.Core.Path.{ap, ◌∙◌}
use Rattle.terminator.specs.Terminators.{is_end}
use Rattle.check_listed.proofs.Passes.{alike_end, alike_on}
use Rattle.check_listed.proofs.alike_pool.Goals as goal

pub returns-then-is_end : goal.returns-then-is_end
returns-then-is_end c =
    alike_end c.args.s _ _ _ _ c.ordinal_in-ordinal.ensures c.unwrap_or-begun.ensures _ (c.is_end.ensures
    ∙ ap is_end c.from.ensures) c.if-is_end.true _
    c.last_fits.ensures

pub returns-else-is_end : goal.returns-else-is_end
returns-else-is_end c =
    alike_on c.args.s _ _ _ _ c.ordinal_in-ordinal.ensures c.unwrap_or-begun.ensures _ (c.is_end.ensures ∙ ap is_end c.from.ensures) c.if-is_end.false

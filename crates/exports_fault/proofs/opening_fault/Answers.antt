-- Words that lend nothing break their own rule, others what their values break.
use Rattle.std.proofs.Common.{sym, ◌∙◌}
use Rattle.exports_fault.proofs.Telling.{lent_none, lent_some}
use Rattle.exports_fault.proofs.opening_fault.Goals as goal

pub returns-in_default : goal.returns-in_default
returns-in_default c = c.tested.ensures ∙ lent_none c.args.image.now c.args.records (sym c.read_lent.ensures ∙ c.in_default.is)

pub returns : goal.returns
returns c = c.opening_fault.ensures ∙ lent_some c.args.image.now c.args.records _ (sym c.read_lent.ensures ∙ c.in-Some.is)

-- The two ends of the run, or the number of live records twice where the target is no number.
use mathlib.Core.Path.{sym, ◌∙◌}
use Rattle.rows_find.proofs.Running.{run_none, run_found}
use Rattle.rows_find.proofs.target_run.Goals as goal

pub returns-in-None : goal.returns-in-None
returns-in-None c = rw (sym c.number_in.ensures ∙ c.in-None.is) (run_none _)

pub returns-in-Some : goal.returns-in-Some
returns-in-Some c = rw (sym c.number_in.ensures ∙ c.in-Some.is) (run_found c.in-Some.id _ _ _ c.ahead-start.ensures.value c.leading.ensures.value)

-- A local array of zeros is lent to an opening, to the day, and to the question for a trade's figures.
use mathlib.Core.Path.{ap, ◌≡◌}
use lib.ListN.{replicate}
use Rattle.daytape.proofs.Given.{reports}
use Rattle.std.proofs.Common.{rules}
use Rattle.std.specs.Prelude.{unwrap_or, IfOk}
use Rattle.book.specs.declared.Book.{Book}
use Rattle.daytape.proofs.day_over.Goals as goal

pub returns : goal.returns
returns c =
    let ok : IfOk c.open_table.result (λ (x : Book). c.unwrap_or_else-book.result ≡ x) = search rules in
    let f : c.unwrap_or_default-figures.result ≡ unwrap_or c.table_figures.result (record { open_par = 0; millions = 0 }) = search rules in
    reports c.args.v _ _ c.open_table.result c.unwrap_or_else-book.result (ap (replicate 512) c.none-pools.ensures) c.open_table.ensures ok c.args.tape.now _ _ c.run_day-day.ensures _ _ c.table_figures.ensures f

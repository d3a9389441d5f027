-- A CC frees the records of the pools that it takes off, an ON none.
use native.Mathlib.Omega.{arith}
use Rattle.layout.proofs.Lengths.{count_max}
use Rattle.check_trader.proofs.Fits.{replacements_few, fits_cc, fits_on}
use Rattle.check_trader.proofs.table_fits.Goals as goal

pub overflow_add-result : goal.overflow_add-result
overflow_add-result c = omega (arith, c.pool_count-n.ensures, count_max c.args.body.now)

pub returns-then-not-cc : goal.returns-then-not-cc
returns-then-not-cc c =
    rw c.if-not-cc.true (fits_on c.args.body.now c.args.live c.args.records _ c.pool_count-n.ensures)

pub overflow_add-result-2 : goal.overflow_add-result-2
overflow_add-result-2 c = omega (arith, c.replacement_count-new.ensures, replacements_few c.args.body.now, count_max c.args.body.now)

pub overflow_sub-result : goal.overflow_sub-result
overflow_sub-result c = omega (arith, c.replacement_count-new.ensures, c.pool_count-n.ensures, replacements_few c.args.body.now)

pub overflow_add-result-3 : goal.overflow_add-result-3
overflow_add-result-3 c = omega (arith, c.pool_count-n.ensures, count_max c.args.body.now)

pub returns : goal.returns
returns c =
    rw c.if-not-cc.false (fits_cc c.args.body.now c.args.live c.args.records _ c.pool_count-n.ensures _ c.replacement_count-new.ensures)

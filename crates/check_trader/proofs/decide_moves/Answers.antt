-- Each of 37, 38 and 40 that fails gives its reason; where none does, what moves is what the message takes off and brings.
use mathlib.Core.Path.{sym}
use native.Mathlib.Omega.{arith}
use borrow.Author.Rules.{rules}
use Rattle.check_trader.proofs.Deciding.{within, few, size, findable, weighable, listed_fails, par_fails, table_fails, all_pass}
use Rattle.check_trader.proofs.decide_moves.Goals as goal

pub slice_bounds-live-end : goal.slice_bounds-live-end
slice_bounds-live-end c = sym (size c.args.book.now c.args.pools.now c.args.body.now c.requires.ready)

pub find_listed-requires : goal.find_listed-requires
find_listed-requires c = findable c.args.book.now c.args.pools.now c.args.body.now c.requires.ready

pub returns-in_default : goal.returns-in_default
returns-in_default c = λ asked. listed_fails c.args.book.now c.args.pools.now c.args.body.now c.requires.ready asked (c.in_default.ensures)

pub weight_of_marked-off-requires : goal.weight_of_marked-off-requires
weight_of_marked-off-requires c =
    weighable c.args.book.now c.args.pools.now c.args.body.now c.requires.ready _ ((c.in-Some.ensures).taken.size)

pub returns-in_err-check : goal.returns-in_err-check
returns-in_err-check c = λ asked.
    par_fails c.args.book.now c.args.pools.now c.args.body.now c.requires.ready asked _ c.requires.target_value _ c.in-Some.ensures _ _ _
    c.weight_of_marked-off.ensures c.brought_weight-brought.ensures c.trade_concerned-trade.ensures _ c.par_fits.ensures _
    (rw (c.brings_lots-brings.ensures, c.message_type-kind.ensures) at c.check.ensures) _ c.in_err-check.was _ (search rules)

pub table_fits-requires : goal.table_fits-requires
table_fits-requires c =
    let l = few c.args.book.now c.args.pools.now c.args.body.now c.requires.ready in
    (omega (arith, l, within c.args.book.now c.args.pools.now c.args.body.now c.requires.ready), l)

pub returns-in_err-check-2 : goal.returns-in_err-check-2
returns-in_err-check-2 c = λ asked.
    table_fails c.args.book.now c.args.pools.now c.args.body.now c.requires.ready asked _ c.requires.target_value _ c.in-Some.ensures _ _ _
    c.weight_of_marked-off.ensures c.brought_weight-brought.ensures c.trade_concerned-trade.ensures _ c.par_fits.ensures _
    (rw (c.brings_lots-brings.ensures, c.message_type-kind.ensures) at c.check.ensures) c.in_ok-check.was _
    (rw (c.is_cc.ensures, c.message_type-kind.ensures) at c.table_fits.ensures) _
    (rw (c.brings_lots-brings.ensures, c.message_type-kind.ensures) at c.check-2.ensures) _ c.in_err-check-2.was _ (search rules)

pub returns : goal.returns
returns c = λ asked.
    all_pass c.args.book.now c.args.pools.now c.args.body.now c.requires.ready asked _ c.requires.target_value _ c.in-Some.ensures _ _ _
    c.weight_of_marked-off.ensures c.brought_weight-brought.ensures c.trade_concerned-trade.ensures _ c.par_fits.ensures _
    (rw (c.brings_lots-brings.ensures, c.message_type-kind.ensures) at c.check.ensures) c.in_ok-check.was _
    (rw (c.is_cc.ensures, c.message_type-kind.ensures) at c.table_fits.ensures) _
    (rw (c.brings_lots-brings.ensures, c.message_type-kind.ensures) at c.check-2.ensures) c.in_ok-check-2.was

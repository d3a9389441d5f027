-- 30 to 36 come first, and 37, 38 and 40 where those pass.
use mathlib.Core.Path.{sym, ◌∙◌}
use borrow.Author.Rules.{rules}
use Rattle.book.specs.Checks.{call}
use Rattle.check_trader.proofs.Deciding.{size, live_few, ordered, target_decides, new_decides, moves_decide}
use Rattle.check_trader.proofs.decide.Goals as goal

pub slice_bounds-target_trade-end : goal.slice_bounds-target_trade-end
slice_bounds-target_trade-end c = sym (size c.args.book.now c.args.pools.now c.args.body.now c.requires)

pub target_trade-target-requires : goal.target_trade-target-requires
target_trade-target-requires c = (live_few c.args.book.now c.args.pools.now c.args.body.now c.requires, ordered c.args.book.now c.args.pools.now c.args.body.now c.requires)

pub decide_moves-requires : goal.decide_moves-requires
decide_moves-requires c = record { ready = c.requires; target_value = sym (c.target_trade-target.ensures).trade ∙ sym c.unwrap_or.ensures }

pub returns-in_err-first_of_target : goal.returns-in_err-first_of_target
returns-in_err-first_of_target c = λ asked.
    target_decides (call c.args.book.now c.args.pools.now c.args.body.now asked) _
    (c.first_of_target.ensures c.args.pools.now asked c.target_trade-target.ensures) _ c.in_err-first_of_target.was _ (search rules)

pub returns-in_err-first_of_new : goal.returns-in_err-first_of_new
returns-in_err-first_of_new c = λ asked.
    new_decides (call c.args.book.now c.args.pools.now c.args.body.now asked) _
    (c.first_of_target.ensures c.args.pools.now asked c.target_trade-target.ensures) c.in_ok-first_of_target.was _
    (c.first_of_new.ensures c.args.pools.now asked) _ c.in_err-first_of_new.was _ (search rules)

pub returns : goal.returns
returns c = λ asked.
    moves_decide (call c.args.book.now c.args.pools.now c.args.body.now asked) _
    (c.first_of_target.ensures c.args.pools.now asked c.target_trade-target.ensures) c.in_ok-first_of_target.was _
    (c.first_of_new.ensures c.args.pools.now asked) c.in_ok-first_of_new.was _ (c.decide_moves.ensures asked)

-- An accepted frame: what the decision says of the body gives each call what it asks, and the calls together are the step.
use native.Mathlib.Omega.{arith}
use borrow.Author.Rules.{rules}
use Rattle.table_step.proofs.Accepting.{last_few, header_fits, trade_few, par_fits, par_covers, movable, after_fits, accepted_frame}
use Rattle.table_step.proofs.accept.Goals as goal

pub overflow_add-message : goal.overflow_add-message
overflow_add-message c =
    let a = c.args in omega (arith, last_few a.book a.pools.now a.body.now a.caller a.out.now a.decision.now c.requires)

pub offset_bounds-book-trade : goal.offset_bounds-book-trade
offset_bounds-book-trade c =
    let a = c.args in omega (arith, trade_few a.book a.pools.now a.body.now a.caller a.out.now a.decision.now c.requires)

pub bounds-book-trade : goal.bounds-book-trade
bounds-book-trade c = let a = c.args in trade_few a.book a.pools.now a.body.now a.caller a.out.now a.decision.now c.requires

pub overflow_add-par : goal.overflow_add-par
overflow_add-par c = let a = c.args in omega (arith, par_fits a.book a.pools.now a.body.now a.caller a.out.now a.decision.now c.requires)

pub overflow_sub-par : goal.overflow_sub-par
overflow_sub-par c = let a = c.args in par_covers a.book a.pools.now a.body.now a.caller a.out.now a.decision.now c.requires

pub put_reply-requires-clause-header_width_in_bounds : goal.put_reply-requires-clause-header_width_in_bounds
put_reply-requires-clause-header_width_in_bounds c =
    let a = c.args in header_fits a.book a.pools.now a.body.now a.caller a.out.now a.decision.now c.requires

pub move_table-requires-clause-movable : goal.move_table-requires-clause-movable
move_table-requires-clause-movable c =
    let a = c.args in movable a.book a.pools.now a.body.now a.caller a.out.now a.decision.now c.requires (search rules)

pub move_table-requires-clause-trade_in_bounds : goal.move_table-requires-clause-trade_in_bounds
move_table-requires-clause-trade_in_bounds c =
    let a = c.args in after_fits a.book a.pools.now a.body.now a.caller a.out.now a.decision.now c.requires

pub offset_bounds-after-trade : goal.offset_bounds-after-trade
offset_bounds-after-trade c =
    let a = c.args in omega (arith, trade_few a.book a.pools.now a.body.now a.caller a.out.now a.decision.now c.requires)

pub bounds-after-trade : goal.bounds-after-trade
bounds-after-trade c = let a = c.args in trade_few a.book a.pools.now a.body.now a.caller a.out.now a.decision.now c.requires

pub returns : goal.returns
returns c =
    let a = c.args in
    record {
      framed =
          accepted_frame a.book a.pools.now a.body.now a.caller a.out.now a.decision.now c.requires _ _ _ _
          (c.with_counters-after.ensures a.body.now c.arrived-number.ensures) c.move_table.ensures.0 c.move_table.ensures.1 c.put_reply.ensures;
    }

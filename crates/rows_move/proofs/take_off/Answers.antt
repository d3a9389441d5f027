-- A message that lists lots takes them off by the marks; any other leaves all records.
use Rattle.rows_move.proofs.Taking.{taken_off, left_all}
use Rattle.rows_move.proofs.take_off.Goals as goal

pub returns-then-lists_lots : goal.returns-then-lists_lots
returns-then-lists_lots c = let a = c.args in taken_off a.body.now a.pools.now a.live a.marks.now c.requires _ _ c.close_up.ensures.0 c.close_up.ensures.1

pub returns-else-lists_lots : goal.returns-else-lists_lots
returns-else-lists_lots c =
    let a = c.args in
    left_all a.body.now a.pools.now a.live a.marks.now c.requires _ _ c.message_type.ensures c.lists_lots.ensures c.if-lists_lots.false

-- What an ON or a CC brings is staged, then the table is closed up, then the staged pools are stored behind those left; another type only closes up.
use native.Mathlib.Omega.{arith}
use lib.ListN.{length, take, length-append}
use Rattle.rows_bring.proofs.Pools.{staged_faces, staged_terminators}
use Rattle.rows_move.specs.Moves.{remaining, bringing}
use Rattle.rows_move.proofs.Taking.{brings_room, brings_all, brings_none, moved}
use Rattle.rows_move.proofs.move_table.Goals as goal

pub returns-then-not-brings_lots : goal.returns-then-not-brings_lots
returns-then-not-brings_lots c =
    let a = c.args in
    brings_none a.body.now a.message a.trade _ _ c.message_type.ensures c.brings_lots.ensures (length a.pools.now) _
    (remaining a.body.now (take a.live a.pools.now)) _ c.if-not-brings_lots.true c.take_off.ensures.0 c.take_off.ensures.1

pub put_lots-requires : goal.put_lots-requires
put_lots-requires c =
    let a = c.args in
    let rs = remaining a.body.now (take a.live a.pools.now) in
    let l = length-append rs (bringing a.body.now a.message a.trade) in
    record {
      room =
          brings_room a.body.now a.message a.trade _ _ c.message_type.ensures c.brings_lots.ensures c.take_off-left.result _ c.if-not-brings_lots.false
          (omega (arith, c.requires.trade_in_bounds, c.take_off-left.ensures.0, l, c.take_off-left.auto.pools));
      are_staged =
          (staged_faces a.body.now c.stage-staged.result c.stage-staged.ensures, staged_terminators a.body.now c.stage-staged.result c.stage-staged.ensures);
    }

pub returns : goal.returns
returns c =
    let a = c.args in
    let b =
    brings_all a.body.now a.message a.trade _ _ c.message_type.ensures c.brings_lots.ensures _ _ _ _ c.if-not-brings_lots.false
    c.put_lots.ensures.0 c.put_lots.ensures.1 in
    moved _ _ _ (remaining a.body.now (take a.live a.pools.now)) (bringing a.body.now a.message a.trade) _ _ c.requires.trade_in_bounds
    c.take_off-left.ensures.0 c.take_off-left.ensures.1 b.0 b.1

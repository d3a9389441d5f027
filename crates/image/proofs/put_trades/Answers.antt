-- Each row stands right after those before it.
use Rattle.std.proofs.Common.{arith}
use Rattle.book.specs.Checks.{no_trade}
use Rattle.image.specs.Images.{trade_image}
use Rattle.image.proofs.Joining.{joining_none, joining_more, joining_done}
use Rattle.image.proofs.put_trades.Goals as goal

pub loop-i-init : goal.loop-i-init
loop-i-init c = joining_none trade_image c.args.trades.now c.args.words.now

pub loop-i-preserved : goal.loop-i-preserved
loop-i-preserved c =
    let l = c.loop-i in
    let row = c.trade_words-row in
    joining_more trade_image c.args.trades.now c.args.words.now l.words _ l.i l.invariant _ no_trade row.ensures row.type_inv.1.0.1 c.put.ensures (omega arith)

pub returns : goal.returns
returns c =
    let l = c.loop-i in
    (joining_done trade_image c.args.trades.now c.args.words.now l.words l.i 64 l.invariant (omega arith) (omega arith)).is c.requires

-- The loop's invariant: the rows of the first i trades, joined, stand at the front.
use Rattle.image.specs.Images.{trade_image}
use Rattle.image.proofs.Joining.{Joining}
use Rattle.image.proofs.put_trades.Given as goal

abbrev pub invariant-loop-i : goal.invariant-loop-i
invariant-loop-i l = Joining trade_image l.trades l.initial.words l.words l.i

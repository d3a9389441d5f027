-- Whether an ID is repeated among the trades that are left is still the answer.
use Rattle.std.proofs.Common.{◌≡◌, drop, map}
use Rattle.book.specs.Trades.{trade_name}
use Rattle.book.specs.Opening.{names_repeat}
use Rattle.check_opening.proofs.names_repeat.Given as goal

abbrev pub invariant-loop-i : goal.invariant-loop-i
invariant-loop-i l = names_repeat (map trade_name (drop l.i l.trades)) ≡ names_repeat (map trade_name l.trades)

-- The marks filled so far are those of the trades so far.
use Rattle.std.proofs.Common.{◌≡◌, length, take, map}
use Rattle.book.specs.Trades.{trade_name}
use Rattle.check_opening.specs.Marks.{mark_of}
use Rattle.check_opening.proofs.marks_of.Given as goal

abbrev pub invariant-loop-i : goal.invariant-loop-i
invariant-loop-i l = record { room : length l.marks ≡ 64; filled : take l.i l.marks ≡ map mark_of (map trade_name (take l.i l.trades)) }

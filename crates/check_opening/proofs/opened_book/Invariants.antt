-- The trades so far are at par, and the others as they were lent.
use Rattle.std.proofs.Common.{◌≡◌, ℕ, ◌<◌, ◌≤◌, length, get_or}
use Rattle.book.specs.Checks.{no_trade}
use Rattle.book.specs.Opening.{at_par}
use Rattle.check_opening.proofs.opened_book.Given as goal

abbrev pub invariant-loop-t : goal.invariant-loop-t
invariant-loop-t l = record {
  long : length l.t-items ≡ length l.fn.v.trades;
  done : (k : ℕ) → k < l.t-index → get_or l.t-items k no_trade ≡ at_par (get_or l.fn.v.trades k no_trade);
  left : (k : ℕ) → l.t-index ≤ k → get_or l.t-items k no_trade ≡ get_or l.fn.v.trades k no_trade;
}

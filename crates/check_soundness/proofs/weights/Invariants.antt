-- For every trade, its cell and what is left to add make up its weight. So no cell grows past the weight of all the records, which 64 bits hold.
use Rattle.std.proofs.Common.{◌≡◌, length}
use Rattle.book.specs.Opening.{trades_max}
use Rattle.check_soundness.proofs.Weighed.{Weighed}
use Rattle.check_soundness.proofs.weights.Given as goal

abbrev pub invariant-loop-p : goal.invariant-loop-p
invariant-loop-p l = record { long : length l.sums ≡ trades_max; weighed : Weighed l.live l.sums l.message l.ordinal l.p-index }

-- The trades so far are those of the words.
use Rattle.std.proofs.Common.{◌≡◌, ℕ, ◌<◌, length, get_or}
use Rattle.image.specs.Images.{row_in, count_in, trade_in, blank}
use Rattle.image_reading.proofs.read_trades.Given as goal

abbrev pub invariant-loop-i : goal.invariant-loop-i
invariant-loop-i l = record {
  long : length l.t-items ≡ 64;
  read : (k : ℕ) → k < l.i → get_or l.t-items k blank ≡ trade_in (row_in l.words (count_in l.words) k);
}

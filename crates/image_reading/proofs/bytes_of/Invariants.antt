-- The bytes so far are the words.
use Rattle.std.proofs.Common.{◌≡◌, ℕ, ◌<◌, length, get_or}
use Rattle.image_reading.proofs.bytes_of.Given as goal

abbrev pub invariant-loop-i : goal.invariant-loop-i
invariant-loop-i g l = record {
  long : length l.byte-items ≡ length l.words;
  read : (k : ℕ) → k < l.i → get_or l.byte-items k 0 ≡ get_or l.words k 0;
}

-- The holidays so far are those of the words.
use Rattle.std.proofs.Common.{◌≡◌, ℕ, ◌<◌, get_or}
use Rattle.image.specs.Images.{holiday_in}
use Rattle.image_reading.proofs.read_holidays.Given as goal

abbrev pub invariant-loop-i : goal.invariant-loop-i
invariant-loop-i l = (k : ℕ) → k < l.i → get_or l.day-items k 0 ≡ holiday_in l.rest (get_or l.rest 33 0) k

-- The records taken in have no twins, and the two arrays hold those of each bucket.
use Rattle.std.proofs.Common.{◌≡◌, length}
use Rattle.rows_keys.specs.Keys.{bucket_count}
use Rattle.book.specs.Opening.{records_max}
use Rattle.check_once.specs.Seen.{Linked, Seen}
use Rattle.check_once.proofs.Twins.{Once}
use Rattle.check_once.proofs.search.Given as goal

abbrev pub invariant-loop-i : goal.invariant-loop-i
invariant-loop-i l =
    record {
      seen_long : length l.seen ≡ bucket_count;
      back_long : length l.back ≡ records_max;
      seen : Seen l.spread.numbers l.live l.seen l.i;
      back : Linked l.spread.numbers l.live l.back l.i;
      once : Once l.live l.start l.i;
    }

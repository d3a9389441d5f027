-- Where the target's records stand: they follow one another, since a sound table is in the order of message IDs.
use Rattle.std.specs.Prelude.{ℕ, Option}
use Rattle.std.specs.Prelude.{◌+◌, List, drop}
use Rattle.std.specs.List.{position_or_len, prefix_len}
use Rattle.book.specs.declared.Pool.{Pool}
use Rattle.book.specs.Messages.{under}
use Rattle.rows_find.specs.declared.Run.{Run}

-- the target's records: from the first under it up to the first after that which is not
unfoldable pub run_of : Option ℕ → List Pool → Run
run_of tgt rs =
    record {
      start = position_or_len (under tgt) rs;
      stop = position_or_len (under tgt) rs + prefix_len (under tgt) (drop (position_or_len (under tgt) rs) rs);
    }

-- The records of one new lot: what they have in common, and what each pool has for itself.
use Rattle.std.specs.Prelude.{ℕ, List}
use Rattle.lists.specs.Lists.{tab}
use Rattle.layout.specs.declared.Detail.{Detail}
use Rattle.layout.specs.Details.{detail_at, place_of}
use Rattle.terminator.specs.declared.Terminator.{Terminator}
use Rattle.terminator.specs.Terminators.{kind_of, millions_of}
use Rattle.terminator.specs.Lots.{current_cents}
use Rattle.book.specs.declared.Pool.{Pool}
use Rattle.book.specs.Records.{kind_number}
use Rattle.rows_bring.specs.declared.Common.{Common}

-- what the records of a lot have in common, by the terminator that ends it
abbrev pub common_of : Terminator → ℕ → ℕ → ℕ → Common
common_of end message ordinal trade =
    record { message = message; ordinal = ordinal; trade = trade; kind = kind_number (kind_of end); millions = millions_of end }

-- the record of a pool, with its current face in cents
abbrev pub record_with : Common → Detail → ℕ → Pool
record_with s d current =
    record {
      message = s.message;
      ordinal = s.ordinal;
      trade = s.trade;
      matched = d.matched;
      current = current;
      kind = s.kind;
      millions = s.millions;
    }

-- the record of the i-th pool of a body
abbrev pub record_from : List ℕ → Common → ℕ → Pool
record_from body s i = record_with s (detail_at body (place_of i)) (current_cents (detail_at body (place_of i)))

-- the records of n pools of a body from one on
unfoldable pub records_from : List ℕ → Common → ℕ → ℕ → List Pool
records_from body s first n = tab (record_from body s) n first

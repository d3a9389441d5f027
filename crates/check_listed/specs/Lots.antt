-- The 6 lots of a CC against the live ones (01, number 37): all pools of a lot have records of one ordinal, whose kind and millions are the lot's.
use Rattle.std.specs.Prelude.{ℕ, List, Bool, true, cond, ◌&&◌, get_or, eqb, Option, Some, None, unwrap_or}
use Rattle.lists.specs.Lists.{fold}
use Rattle.layout.specs.declared.Detail.{Detail}
use Rattle.terminator.specs.Terminators.{is_end, kind_of, kind_number, millions_of, term, is_canceled}
use Rattle.book.specs.declared.Pool.{Pool}
use Rattle.book.specs.Records.{no_pool}
use Rattle.check_listed.specs.declared.Alike.{Alike}

-- the record of a canceled pool, by its place; another pool has none
abbrev pub record_of : List Pool → ℕ → Detail → Option Pool
record_of ps place d = cond (is_canceled d) (Some (get_or ps place no_pool)) None

-- the ordinal of a pool's record, 0 where it has none
abbrev pub ordinal_in : Option Pool → ℕ
ordinal_in None = 0
ordinal_in (Some r) = r.ordinal

-- whether the record of a lot's last pool has the kind and the millions that its terminator gives
abbrev pub last_fits : Detail → Option Pool → Bool
last_fits d None = true
last_fits d (Some r) = eqb r.kind (kind_number (kind_of (term d))) && eqb r.millions (millions_of (term d))

-- the ordinal of the lot that is begun; where none is, that of the pool's record
abbrev pub begun : Alike → Option Pool → ℕ
begun s r = unwrap_or s.lot (ordinal_in r)

-- one pool more, with its record
unfoldable pub alike_pool : Alike → Detail → Option Pool → Alike
alike_pool s d r =
    cond (is_end (term d))
    (record { fine = (s.fine && eqb (begun s r) (ordinal_in r)) && last_fits d r; lot = None })
    (record { fine = s.fine && eqb (begun s r) (ordinal_in r); lot = Some (begun s r) })

-- before the first pool
abbrev pub none_alike : Alike
none_alike = record { fine = true; lot = None }

-- all pools, by the record of each one
abbrev pub alike_all : (Detail → Option Pool) → List Detail → Alike
alike_all its_record ds = fold (λ (s : Alike) (d : Detail). alike_pool s d (its_record d)) none_alike ds

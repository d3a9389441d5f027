-- Live pools (01, "The book"): records of a table, the lots that they make up, what a trade's lots weigh, and its standing millions.
use Rattle.std.specs.Prelude.{ℕ, ◌+◌, ◌*◌, List, [], ◌∷◌, ◌++◌, map, Bool, true, cond, not, ◌&&◌, replicate, eqb}
use Rattle.lists.specs.Lists.{same, keep, any, sum_of}
use Rattle.layout.specs.declared.Matched.{Matched}
use Rattle.layout.specs.declared.Detail.{Detail}
use Rattle.layout.specs.Columns.{lot_id, pool_number, original_face}
use Rattle.terminator.specs.declared.Kind.TheVariants.{Good, Odd, Bad}
pub use Rattle.terminator.specs.Terminators.{kind_number}
use Rattle.terminator.specs.Lots.{Lot, pools_of, lot_kind, lot_millions, current_cents, million_cents}
use Rattle.book.specs.declared.Pool.{Pool}
use Rattle.book.specs.Dues.{Due}

-- the matched fields of a pool: Lot-ID, pool number and original face, as bytes
abbrev pub Fields : Type 0
Fields = Matched

abbrev pub fields_of : Detail → Fields
fields_of d = d.matched

abbrev pub live_fields : Pool → Fields
live_fields r = r.matched

-- whether all three are equal
abbrev pub same_fields : Fields → Fields → Bool
same_fields f g = same f.lot g.lot && (same f.pool g.pool && same f.original g.original)

abbrev pub has_fields : Fields → List Fields → Bool
has_fields f fs = any (same_fields f) fs

-- no matched fields twice
abbrev pub distinct : List Fields → Bool
distinct [] = true
distinct (f ∷ fs) = not (has_fields f fs) && distinct fs

-- the kinds as a record has them
abbrev pub kind_good : ℕ
kind_good = kind_number Good

abbrev pub kind_odd : ℕ
kind_odd = kind_number Odd

abbrev pub kind_bad : ℕ
kind_bad = kind_number Bad

-- the record of a new pool: under a message ID, its lot's ordinal and its trade
abbrev pub pool_of : ℕ → ℕ → ℕ → Lot → Detail → Pool
pool_of message ordinal trade l d =
    record {
      message = message;
      ordinal = ordinal;
      trade = trade;
      matched = d.matched;
      current = current_cents d;
      kind = kind_number (lot_kind l);
      millions = lot_millions l;
    }

-- the records of new lots, each under the trade that it is due to, whose ordinals run on from a number
abbrev pub records_of : ℕ → ℕ → List Due → List Pool
records_of message ordinal [] = []
records_of message ordinal (d ∷ ds) = map (pool_of message ordinal d.to d.lot) (pools_of d.lot) ++ records_of message (ordinal + 1) ds

-- zeros: what stands after the live records
abbrev pub no_pool : Pool
no_pool =
    record {
      message = 0;
      ordinal = 0;
      trade = 0;
      matched = record { lot = replicate lot_id.width 0; pool = replicate pool_number.width 0; original = replicate original_face.width 0 };
      current = 0;
      kind = 0;
      millions = 0;
    }

-- whether two records are of one lot
abbrev pub same_lot : Pool → Pool → Bool
same_lot r s = eqb r.message s.message && eqb r.ordinal s.ordinal

-- a live lot: its first record and those after it
pub record LiveLot : Type 0 where
  pub first : Pool
  pub rest : List Pool

abbrev pub live_pools : LiveLot → List Pool
live_pools l = l.first ∷ l.rest

-- a record before some lots: it joins the first of them, or is a lot by itself
abbrev pub join_lot : Pool → List LiveLot → List LiveLot
join_lot r [] = record { first = r; rest = [] } ∷ []
join_lot r (l ∷ ls) = cond (same_lot l.first r) (record { first = r; rest = live_pools l } ∷ ls) (record { first = r; rest = [] } ∷ (l ∷ ls))

-- the live lots of some records: those next to each other with one message ID and ordinal
abbrev pub live_lots : List Pool → List LiveLot
live_lots [] = []
live_lots (r ∷ rs) = join_lot r (live_lots rs)

-- weight of a live lot: good, its millions times 100,000,000 cents; odd or bad, the sum of its current faces (a lot's records agree on kind and millions)
abbrev pub good_weight : ℕ → ℕ
good_weight millions = millions * million_cents

abbrev pub live_weight : LiveLot → ℕ
live_weight l = cond (eqb l.first.kind kind_good) (good_weight l.first.millions) (sum_of (λ (r : Pool). r.current) (live_pools l))

abbrev pub live_millions : LiveLot → ℕ
live_millions l = l.first.millions

-- whether it is a trade's (a message's records agree on trade)
abbrev pub of_trade : ℕ → LiveLot → Bool
of_trade t l = eqb l.first.trade t

-- what a trade's lots among some records weigh
unfoldable pub trade_weight : ℕ → List Pool → ℕ
trade_weight t rs = sum_of live_weight (keep (of_trade t) (live_lots rs))

-- a trade's standing millions: the lot millions of its live lots, each lot once
unfoldable pub standing_millions : ℕ → List Pool → ℕ
standing_millions t rs = sum_of live_millions (keep (of_trade t) (live_lots rs))

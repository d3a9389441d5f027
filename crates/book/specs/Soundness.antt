-- Soundness (01, number 42): the facts that hold of a book and its table, each by name.
use Rattle.std.specs.Prelude.{ℕ, ◌+◌, List, [], ◌∷◌, Bool, true, not, ◌&&◌, ◌||◌, ◌≡◌, length, take, drop, eqb, leb, ltb}
use Rattle.lists.specs.Lists.{same, any, all, between}
use Rattle.terminator.specs.Terminators.{millions_most}
use Rattle.sequence.specs.Sequence.{sound_line}
use Rattle.book.specs.declared.Trade.{Trade}
use Rattle.book.specs.declared.Values.{Values}
use Rattle.book.specs.declared.Book.{Book}
use Rattle.book.specs.declared.Pool.{Pool}
use Rattle.book.specs.Records.{live_fields, same_fields, kind_good, kind_odd, kind_bad, same_lot, trade_weight, no_pool}
use Rattle.book.specs.Trades.{trades_of}
use Rattle.book.specs.Opening.{values_fine, records_max, eleven_digits_max}

-- the live records: the first of the table
abbrev pub live_of : Book → List Pool → List Pool
live_of b table = take b.live table

-- kind and millions that a terminator gives
abbrev pub kind_fine : Pool → Bool
kind_fine r = (eqb r.kind kind_good && between 1 millions_most r.millions) || ((eqb r.kind kind_odd || eqb r.kind kind_bad) && eqb r.millions 0)

-- a live record by itself: a trade that is opened, an ID from 1 to the last, an ordinal, a face of eleven digits, kind and millions
abbrev pub record_fine : Values → Pool → Bool
record_fine v r =
    ltb r.trade v.lent.trade_count
    && (between 1 v.last_message_id r.message && (leb 1 r.ordinal && (leb r.current eleven_digits_max && kind_fine r)))

-- message ID, then ordinal, does not fall
abbrev pub not_falling : Pool → Pool → Bool
not_falling q r = ltb q.message r.message || (eqb q.message r.message && leb q.ordinal r.ordinal)

-- records of one message agree on trade
abbrev pub agree_on_trade : Pool → Pool → Bool
agree_on_trade q r = not (eqb q.message r.message) || eqb q.trade r.trade

-- records of one lot agree on kind and millions
abbrev pub agree_on_lot : Pool → Pool → Bool
agree_on_lot q r = not (same_lot q r) || (eqb q.kind r.kind && eqb q.millions r.millions)

-- a record after another
abbrev pub follows : Pool → Pool → Bool
follows q r = not_falling q r && (agree_on_trade q r && agree_on_lot q r)

abbrev pub in_order : List Pool → Bool
in_order [] = true
in_order (q ∷ []) = true
in_order (q ∷ r ∷ rs) = follows q r && in_order (r ∷ rs)

-- no matched fields twice under one message ID
abbrev pub fields_once : List Pool → Bool
fields_once [] = true
fields_once (r ∷ rs) = not (any (λ (s : Pool). eqb r.message s.message && same_fields (live_fields r) (live_fields s)) rs) && fields_once rs

-- zeros
abbrev pub is_none : Pool → Bool
is_none r =
    eqb r.message 0 && (eqb r.ordinal 0 && (eqb r.trade 0
    && (same r.matched.lot no_pool.matched.lot && (same r.matched.pool no_pool.matched.pool && (same r.matched.original no_pool.matched.original
    && (eqb r.current 0 && (eqb r.kind 0 && eqb r.millions 0)))))))

-- open par is par less what the trade's lots weigh
abbrev pub pars_from : ℕ → List Trade → List Pool → Bool
pars_from i [] rs = true
pars_from i (t ∷ ts) rs = eqb (t.open_par + trade_weight i rs) t.par && pars_from (i + 1) ts rs

-- what a table holds for a book: its live records, how many records it has, and whether zeros stand after the live ones
pub record Held : Type 0 where
  pub live : List Pool
  pub records : ℕ
  pub zeros : Bool

abbrev pub held_in : Book → List Pool → Held
held_in b table = record { live = live_of b table; records = length table; zeros = all is_none (drop b.live table) }

-- ---- the facts by name
pub record Sound (b : Book) (table : List Pool) : Type 0 where
  pub values : values_fine b.values ≡ true
  pub table_short : leb (length table) records_max ≡ true
  pub inbound : sound_line b.values.connection.line ≡ true
  pub live_within : leb b.live (length table) ≡ true
  pub records : all (record_fine b.values) (live_of b table) ≡ true
  pub ordered : in_order (live_of b table) ≡ true
  pub once : fields_once (live_of b table) ≡ true
  pub zeros : all is_none (drop b.live table) ≡ true
  pub pars : pars_from 0 (trades_of b.values) (live_of b table) ≡ true

-- the test that decides them all
abbrev pub holds_sound : Book → Held → Bool
holds_sound b h =
    values_fine b.values
    && (leb h.records records_max
    && (sound_line b.values.connection.line
    && (leb b.live h.records
    && (all (record_fine b.values) h.live
    && (in_order h.live
    && (fields_once h.live
    && (h.zeros
    && pars_from 0 (trades_of b.values) h.live)))))))

unfoldable pub is_sound : Book → List Pool → Bool
is_sound b table = holds_sound b (held_in b table)

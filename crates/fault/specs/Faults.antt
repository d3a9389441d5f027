-- Which rule of opening (01, number 41) or of a sound book (number 42) is broken first, and which trade, holiday or record it is about.
-- Trades, holidays and records are counted from 0; a rule that stands alone is about place 0. The tests are those of Opening and Soundness.
use Rattle.std.specs.Prelude.{ℕ, ◌+◌, List, [], ◌∷◌, map, Bool, not, ◌&&◌, ◌||◌, Option, None, length, drop, eqb, leb, ltb}
use Rattle.lists.specs.Lists.{between, same, any}
use Rattle.fields.specs.Fields.{all_visible}
use Rattle.layout.specs.Columns as columns
use Rattle.faces.specs.Faces.{original_most}
use Rattle.calendar.specs.Calendar.{is_date, business_date}
use Rattle.sequence.specs.Sequence.{sound_line, outbound_max}
use Rattle.book.specs.declared.Trade.{Trade}
use Rattle.book.specs.declared.Limits.{Limits}
use Rattle.book.specs.declared.Values.{Values}
use Rattle.book.specs.declared.Book.{Book}
use Rattle.book.specs.declared.Pool.{Pool}
use Rattle.book.specs.Messages.{ftba, fsti}
use Rattle.book.specs.Trades.{trades_of, trade_name}
use Rattle.book.specs.Records.{live_fields, same_fields, trade_weight}
use Rattle.book.specs.Opening.{
  trades_max,
  holidays_max,
  records_max,
  eleven_digits_max,
  price_max,
  ceiling_max,
  variance_max,
  pools_a_million_max,
  holidays_of,
  account_fine,
  id_fine,
}
use Rattle.book.specs.Soundness.{live_of, kind_fine, not_falling, agree_on_trade, agree_on_lot, is_none}
use Rattle.fault.specs.declared.Fault.{Fault}
use Rattle.fault.specs.Rules.{test, first, first_of, each}

-- ---- 41
-- GDMM ceiling, variance, pools a million and least face
unfoldable pub limits_fault : Limits → Option Fault
limits_fault l =
    first
    (test 107 0 (leb l.ceiling ceiling_max)
    ∷ test 108 0 (leb l.variance variance_max)
    ∷ test 109 0 (between 1 pools_a_million_max l.pools_a_million)
    ∷ test 110 0 (between 1 original_most l.least)
    ∷ [])

-- a trade by itself: ID, seller, buyer, that these differ, contra, CUSIP, settlement, price, par
unfoldable pub trade_fault : List ℕ → ℕ → Trade → Option Fault
trade_fault holidays i t =
    first
    (test 121 i (id_fine t)
    ∷ test 122 i (account_fine t.seller)
    ∷ test 123 i (account_fine t.buyer)
    ∷ test 124 i (not (same t.seller t.buyer))
    ∷ test 125 i (same t.contra ftba || same t.contra fsti)
    ∷ test 126 i (all_visible t.cusip 0 (columns.cusip).width)
    ∷ test 127 i (business_date t.settlement holidays)
    ∷ test 128 i (between 1 price_max t.price)
    ∷ test 129 i (between 1 eleven_digits_max t.par)
    ∷ [])

-- an ID that a later trade has too
abbrev pub names_fault : ℕ → List (List ℕ) → Option Fault
names_fault = first_of (λ i n ns. test 130 i (not (any (same n) ns)))

-- a holiday that is no date
abbrev pub date_fault : ℕ → ℕ → Option Fault
date_fault i day = test 104 i (is_date day)

-- opening's rules but for the table's length: how many trades and holidays, the holidays, subscriber, connection, limits, last message ID, last outbound number, the trades
unfoldable pub values_fault : Values → Option Fault
values_fault v =
    first
    (test 102 0 (leb v.lent.trade_count trades_max)
    ∷ test 103 0 (leb v.lent.holiday_count holidays_max)
    ∷ each date_fault 0 (holidays_of v)
    ∷ test 105 0 (account_fine v.lent.subscriber)
    ∷ test 106 0 (account_fine v.connection.id)
    ∷ limits_fault v.lent.limits
    ∷ test 111 0 (leb v.last_message_id eleven_digits_max)
    ∷ test 112 0 (leb v.connection.outbound.0 outbound_max)
    ∷ each (trade_fault (holidays_of v)) 0 (trades_of v)
    ∷ names_fault 0 (map trade_name (trades_of v))
    ∷ [])

-- 41, over a table of so many records
unfoldable pub opening_fault : Values → ℕ → Option Fault
opening_fault v records = first (values_fault v ∷ test 141 0 (leb records records_max) ∷ [])

-- ---- 42
-- a live record by itself: trade, message ID, ordinal, current face, kind and millions
unfoldable pub record_fault : Values → ℕ → Pool → Option Fault
record_fault v i r =
    first
    (test 151 i (ltb r.trade v.lent.trade_count)
    ∷ test 152 i (between 1 v.last_message_id r.message)
    ∷ test 153 i (leb 1 r.ordinal)
    ∷ test 154 i (leb r.current eleven_digits_max)
    ∷ test 155 i (kind_fine r)
    ∷ [])

-- a record after the one before it: message ID, then ordinal, does not fall; a message's records agree on trade, a lot's on kind and millions
unfoldable pub follows_fault : ℕ → Pool → Pool → Option Fault
follows_fault i q r = first (test 156 i (not_falling q r) ∷ test 157 i (agree_on_trade q r) ∷ test 158 i (agree_on_lot q r) ∷ [])

-- a record and the next one, which is that of the place, where there is one
abbrev pub next_fault : ℕ → Pool → List Pool → Option Fault
next_fault i q [] = None
next_fault i q (r ∷ rs) = follows_fault i q r

-- the records after the first, each with the one before it; the first is that of a place
abbrev pub order_fault : ℕ → List Pool → Option Fault
order_fault i = first_of next_fault (i + 1)

-- records of one message with equal matched fields
abbrev pub twins : Pool → Pool → Bool
twins r s = eqb r.message s.message && same_fields (live_fields r) (live_fields s)

-- matched fields that stand again under the message ID
abbrev pub once_fault : ℕ → List Pool → Option Fault
once_fault = first_of (λ i r rs. test 159 i (not (any (twins r) rs)))

-- a record after the live ones that is not zeros
abbrev pub zeros_fault : ℕ → Pool → Option Fault
zeros_fault i r = test 160 i (is_none r)

-- a trade whose open par is not par less what its lots weigh
abbrev pub par_fault : List Pool → ℕ → Trade → Option Fault
par_fault rs i t = test 161 i (eqb (t.open_par + trade_weight i rs) t.par)

-- 42 but for the open pars: opening's rules, the inbound line, the number of live pools, the live records, those after them
unfoldable pub table_fault : Book → List Pool → Option Fault
table_fault b table =
    first
    (opening_fault b.values (length table)
    ∷ test 142 0 (sound_line b.values.connection.line)
    ∷ test 143 0 (leb b.live (length table))
    ∷ each (record_fault b.values) 0 (live_of b table)
    ∷ order_fault 0 (live_of b table)
    ∷ once_fault 0 (live_of b table)
    ∷ each zeros_fault b.live (drop b.live table)
    ∷ [])

-- 42: these, then the open pars
unfoldable pub book_fault : Book → List Pool → Option Fault
book_fault b table = first (table_fault b table ∷ each (par_fault (live_of b table)) 0 (trades_of b.values) ∷ [])

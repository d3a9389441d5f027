-- Columns, fields of digits, dates and trade IDs by their numbers: an enum's cases in its order, counted from 0, and what a case holds, 0 where it holds nothing.
use Rattle.std.specs.Prelude.{ℕ, List, [], ◌∷◌, Option, is_some, unwrap_or, get_or}
use Rattle.exports_numbers.specs.Bit.{bit}
use Rattle.layout.specs.declared.Column.{Column}
use Rattle.layout.specs.Columns.{column, header}
use Rattle.calendar.specs.Calendar.{is_date, business_date}
use Rattle.trade_id.specs.declared.TradeId.{TradeId}
use Rattle.trade_id.specs.declared.TradeId.TheVariants.{Whole, Broken, Absent}

-- ---- a column of the header by its place in their order; an empty one past the last
unfoldable pub column_of : ℕ → Column
column_of i = get_or header i (column 0 0)

abbrev pub column_numbers : Column → List ℕ
column_numbers c = c.at ∷ c.width ∷ []

-- ---- a field of digits: whether it is one, and its number
abbrev pub field_numbers : Option ℕ → List ℕ
field_numbers f = bit (is_some f) ∷ unwrap_or f 0 ∷ []

-- ---- whether a number is a date, and whether a business date
unfoldable pub date_numbers : ℕ → List ℕ → List ℕ
date_numbers n holidays = bit (is_date n) ∷ bit (business_date n holidays) ∷ []

-- ---- a trade ID: its case, and where a whole one stands
abbrev pub trade_id_numbers : TradeId → List ℕ
trade_id_numbers (Whole place length) = 0 ∷ place ∷ length ∷ []
trade_id_numbers Broken = 1 ∷ 0 ∷ 0 ∷ []
trade_id_numbers Absent = 2 ∷ 0 ∷ 0 ∷ []

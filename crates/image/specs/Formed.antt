-- A book as words say it: each array has its length, each byte and each number of 32 bits is one, and zeros stand past the trades and the holidays that count.
use Rattle.std.specs.Prelude.{ℕ, ◌≤◌, ◌≡◌, Bool, true, length, get_or}
use mathlib.Core.List.{List, Memᴰ}
use Rattle.lists.specs.Lists.{all}
use Rattle.trade_id.specs.SpecialInstructions.{id_length_max}
use Rattle.book.specs.declared.Trade.{Trade}
use Rattle.book.specs.declared.Book.{Book}
use Rattle.book.specs.Opening.{trades_max, holidays_max}
use Rattle.image.specs.Words.{account_width, cusip_width}
use Rattle.image.specs.Images.{is_byte, is_number, last_of, blank}

-- an array of n elements that pass a test
abbrev pub Array : ℕ → (ℕ → Bool) → List ℕ → Type 0
Array n p xs = (length xs ≡ n) × (all p xs ≡ true)

pub record FormedTrade (t : Trade) : Type 0 where
  pub id : Array id_length_max is_byte t.id
  pub seller : Array account_width is_byte t.seller
  pub buyer : Array account_width is_byte t.buyer
  pub contra : Array account_width is_byte t.contra
  pub cusip : Array cusip_width is_byte t.cusip

-- all of a book but its trades
pub record FormedRest (b : Book) : Type 0 where
  pub holidays : Array holidays_max is_number b.values.lent.holidays
  pub spare_holidays : (i : ℕ) → b.values.lent.holiday_count ≤ i → get_or b.values.lent.holidays i 0 ≡ 0
  pub subscriber : Array account_width is_byte b.values.lent.subscriber
  pub connection : Array account_width is_byte b.values.connection.id
  pub outbound : is_number b.values.connection.outbound.0 ≡ true
  pub received : is_number (last_of b.values.connection.line.received) ≡ true
  pub expected : is_number b.values.connection.line.expected.0 ≡ true

-- its trades: 64, of zeros past those that count
pub record FormedTrades (ts : List Trade) (count : ℕ) : Type 0 where
  pub most : length ts ≡ trades_max
  pub each : (t : Trade) → Memᴰ t ts → FormedTrade t
  pub spare : (i : ℕ) → count ≤ i → get_or ts i blank ≡ blank

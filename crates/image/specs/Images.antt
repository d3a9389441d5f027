-- A book as words (01, "The book"): one word for each number and each byte of it, in the order in which the book's structs declare them; and what a list of words says.
-- Of the trades and the holidays only those that the counts tell are read: past them any words may stand.
use Rattle.std.specs.Prelude.{None, Option, Some}
use Rattle.std.specs.Prelude.{ℕ, ◌+◌, ◌*◌, Bool, cond, ◌&&◌, ◌||◌, length, flat_map, get_or, replicate, eqb, ltb}
use mathlib.Core.List.{List, [], ◌∷◌, ◌++◌, map}
use Rattle.lists.specs.Lists.{part, tab, all}
use Rattle.trade_id.specs.SpecialInstructions.{id_length_max}
use Rattle.sequence.specs.declared.Inbound.{Inbound}
use Rattle.sequence.specs.declared.Line.{Line}
use Rattle.sequence.specs.Sequence.{inbound, outbound, start_line}
use Rattle.book.specs.declared.Trade.{Trade}
use Rattle.book.specs.declared.Values.{Values}
use Rattle.book.specs.declared.Book.{Book}
use Rattle.book.specs.Opening.{trades_max, holidays_max}
use Rattle.image.specs.Words as words

-- words of a trade, of all 64, of what stands after them, and of a book
abbrev pub trade_words : ℕ
trade_words = 42

abbrev pub trades_words : ℕ
trades_words = 2688

abbrev pub rest_words : ℕ
rest_words = 52

abbrev pub book_words : ℕ
book_words = 2740

-- ---- what a book is as words
unfoldable pub trade_image : Trade → List ℕ
trade_image t = t.id ++ (t.length ∷ []) ++ t.seller ++ t.buyer ++ t.contra ++ t.cusip ++ (t.settlement ∷ t.price ∷ t.par ∷ t.open_par ∷ [])

-- whether a number was received
abbrev pub flag_of : Option Inbound → ℕ
flag_of None = 0
flag_of (Some n) = 1

-- the last number received, 0 where there is none
abbrev pub last_of : Option Inbound → ℕ
last_of None = 0
last_of (Some n) = n.0

-- all of a book but its trades
unfoldable pub rest_image : Book → List ℕ
rest_image b =
    (b.values.lent.trade_count ∷ []) ++ b.values.lent.holidays ++ (b.values.lent.holiday_count ∷ []) ++ b.values.lent.subscriber ++ b.values.connection.id
    ++ (b.values.lent.limits.ceiling ∷ b.values.lent.limits.variance ∷ b.values.lent.limits.pools_a_million ∷ b.values.lent.limits.least
    ∷ b.values.last_message_id ∷ b.values.connection.outbound.0 ∷ flag_of b.values.connection.line.received ∷ last_of b.values.connection.line.received ∷ b.values.connection.line.expected.0 ∷ b.live ∷ [])

unfoldable pub image_of : Book → List ℕ
image_of b = flat_map trade_image b.values.trades ++ rest_image b

-- ---- what words say
-- the words that stand for the i-th trade, and those after the trades
abbrev pub row_at : List ℕ → ℕ → List ℕ
row_at ws i = part ws (i * trade_words) trade_words

unfoldable pub rest_of : List ℕ → List ℕ
rest_of ws = part ws trades_words rest_words

-- the words of the i-th of so many trades that count, and zeros past them
abbrev pub row_in : List ℕ → ℕ → ℕ → List ℕ
row_in ws count i = cond (ltb i count) (row_at ws i) (replicate trade_words 0)

-- how many trades count
abbrev pub count_in : List ℕ → ℕ
count_in ws = get_or (rest_of ws) words.trade_count 0

unfoldable pub rows_of : List ℕ → List (List ℕ)
rows_of ws = tab (row_in ws (count_in ws)) trades_max 0

-- the i-th of the holidays that count, and 0 past them
abbrev pub holiday_in : List ℕ → ℕ → ℕ → ℕ
holiday_in rest count i = cond (ltb i count) (get_or rest (words.holidays + i) 0) 0

unfoldable pub holidays_in : List ℕ → List ℕ
holidays_in rest = tab (holiday_in rest (get_or rest words.holiday_count 0)) holidays_max 0

-- a word that is a byte, and one that is a sequence number or a date
abbrev pub is_byte : ℕ → Bool
is_byte w = ltb w 256

abbrev pub is_number : ℕ → Bool
is_number w = ltb w 4294967296

-- the bytes of a trade are bytes
unfoldable pub trade_fits : List ℕ → Bool
trade_fits row = all is_byte (part row words.id id_length_max) && all is_byte (part row words.seller words.names_words)

-- either nothing was received and the number is 0, or a number was
abbrev pub received_fits : ℕ → ℕ → Bool
received_fits flag n = (eqb flag 0 && eqb n 0) || (eqb flag 1 && is_number n)

-- what opening takes of the words after the trades: holidays, subscriber and connection, and the last outbound number
unfoldable pub lent_fits : List ℕ → Bool
lent_fits rest = all is_number (holidays_in rest) && (all is_byte (part rest words.subscriber words.accounts_words) && is_number (get_or rest words.outbound 0))

-- what opening sets itself, and a book has: the last number received and the expected one
unfoldable pub line_fits : List ℕ → Bool
line_fits rest = received_fits (get_or rest words.received 0) (get_or rest words.number 0) && is_number (get_or rest words.expected 0)

-- whether words say what opening lends
unfoldable pub is_lent : List ℕ → Bool
is_lent ws = eqb (length ws) book_words && (all trade_fits (rows_of ws) && lent_fits (rest_of ws))

-- whether words are the image of a book
unfoldable pub is_image : List ℕ → Bool
is_image ws = is_lent ws && line_fits (rest_of ws)

-- the trade that its words say
unfoldable pub trade_in : List ℕ → Trade
trade_in row =
    record {
      id = part row words.id id_length_max;
      length = get_or row words.length 0;
      seller = part row words.seller words.account_width;
      buyer = part row words.buyer words.account_width;
      contra = part row words.contra words.account_width;
      cusip = part row words.cusip words.cusip_width;
      settlement = get_or row words.settlement 0;
      price = get_or row words.price 0;
      par = get_or row words.par 0;
      open_par = get_or row words.open_par 0;
    }

abbrev pub received_in : ℕ → ℕ → Option Inbound
received_in flag n = cond (eqb flag 0) None (Some (inbound n))

abbrev pub line_in : List ℕ → Line
line_in rest = record { received = received_in (get_or rest words.received 0) (get_or rest words.number 0); expected = inbound (get_or rest words.expected 0) }

-- the values of some trades and a line that the words after the trades say
unfoldable pub values_from : List Trade → List ℕ → Line → Values
values_from trades rest line =
    record {
      trades = trades;
      lent =
          record {
            trade_count = get_or rest words.trade_count 0;
            holidays = holidays_in rest;
            holiday_count = get_or rest words.holiday_count 0;
            subscriber = part rest words.subscriber words.account_width;
            limits =
                record {
                  ceiling = get_or rest words.ceiling 0;
                  variance = get_or rest words.variance 0;
                  pools_a_million = get_or rest words.pools_a_million 0;
                  least = get_or rest words.least 0;
                };
          };
      last_message_id = get_or rest words.last_message_id 0;
      connection = record { id = part rest words.connection words.account_width; line = line; outbound = outbound (get_or rest words.outbound 0) };
    }

-- a trade of zeros: what stands after the trades of a book
abbrev pub blank : Trade
blank =
    record {
      id = replicate id_length_max 0;
      length = 0;
      seller = replicate words.account_width 0;
      buyer = replicate words.account_width 0;
      contra = replicate words.account_width 0;
      cusip = replicate words.cusip_width 0;
      settlement = 0;
      price = 0;
      par = 0;
      open_par = 0;
    }

-- the trades that words say
unfoldable pub trades_in : List ℕ → List Trade
trades_in ws = map trade_in (rows_of ws)

-- the values that words say to opening, which starts the line itself
unfoldable pub values_in : List ℕ → Values
values_in ws = values_from (trades_in ws) (rest_of ws) start_line

-- the book that words say
unfoldable pub book_in : List ℕ → Book
book_in ws = record { values = values_from (trades_in ws) (rest_of ws) (line_in (rest_of ws)); live = get_or (rest_of ws) words.live 0 }

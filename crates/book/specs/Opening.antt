-- Opening (01, "The book" and number 41): which values are in range, the book and table that an accepted opening leaves, and the book that a refused one gives back.
use Rattle.std.specs.Prelude.{ℕ, ◌+◌, List, [], ◌∷◌, map, Bool, false, not, ◌&&◌, ◌||◌, length, take, replicate, eqb, leb}
use Rattle.lists.specs.Lists.{between, same, any, all}
use Rattle.fields.specs.Fields.{all_visible}
use Rattle.layout.specs.Columns as columns
use Rattle.faces.specs.Faces.{original_most}
use Rattle.calendar.specs.Calendar.{is_date, business_date}
use Rattle.trade_id.specs.SpecialInstructions.{equals_sign, id_length_max}
use Rattle.sequence.specs.Sequence.{start_line, outbound_max}
use Rattle.book.specs.declared.Trade.{Trade}
use Rattle.book.specs.declared.Limits.{Limits}
use Rattle.book.specs.declared.Connection.{Connection}
use Rattle.book.specs.declared.Values.{Values}
use Rattle.book.specs.declared.Book.{Book}
use Rattle.book.specs.declared.Pool.{Pool}
use Rattle.book.specs.Records.{no_pool}
use Rattle.book.specs.Messages.{ftba, fsti}
use Rattle.book.specs.Trades.{trades_of, trade_name}

abbrev pub trades_max : ℕ
trades_max = 64

abbrev pub holidays_max : ℕ
holidays_max = 32

abbrev pub records_max : ℕ
records_max = 4096

-- eleven digits: message IDs, and par in cents
abbrev pub eleven_digits_max : ℕ
eleven_digits_max = 99999999999

-- twelve digits: a price with nine decimals
abbrev pub price_max : ℕ
price_max = 999999999999

abbrev pub ceiling_max : ℕ
ceiling_max = 9999

-- cents a million
abbrev pub variance_max : ℕ
variance_max = 1000000

abbrev pub pools_a_million_max : ℕ
pools_a_million_max = 250

-- the holidays that are opened
abbrev pub holidays_of : Values → List ℕ
holidays_of v = take v.lent.holiday_count v.lent.holidays

abbrev pub limits_fine : Limits → Bool
limits_fine l = leb l.ceiling ceiling_max && (leb l.variance variance_max && (between 1 pools_a_million_max l.pools_a_million && between 1 original_most l.least))

-- an account, a subscriber and a connection: four characters of codes 33 to 126
abbrev pub account_fine : List ℕ → Bool
account_fine a = all_visible a 0 (columns.submitter).width

-- an ID: 1 to 16 characters of codes 33 to 126, none of them "="
abbrev pub id_fine : Trade → Bool
id_fine t = between 1 id_length_max t.length && (all_visible t.id 0 t.length && not (any (eqb equals_sign) (trade_name t)))

abbrev pub trade_fine : List ℕ → Trade → Bool
trade_fine holidays t =
    id_fine t
    && (account_fine t.seller && (account_fine t.buyer && (not (same t.seller t.buyer)
    && ((same t.contra ftba || same t.contra fsti)
    && (all_visible t.cusip 0 (columns.cusip).width
    && (business_date t.settlement holidays
    && (between 1 price_max t.price && between 1 eleven_digits_max t.par)))))))

-- whether some ID stands twice
abbrev pub names_repeat : List (List ℕ) → Bool
names_repeat [] = false
names_repeat (n ∷ ns) = any (same n) ns || names_repeat ns

-- opening's rules but for the table's length
unfoldable pub values_fine : Values → Bool
values_fine v =
    (leb v.lent.trade_count trades_max && leb v.lent.holiday_count holidays_max)
    && (all is_date (holidays_of v)
    && (account_fine v.lent.subscriber && (account_fine v.connection.id
    && (limits_fine v.lent.limits
    && (leb v.last_message_id eleven_digits_max && (leb v.connection.outbound.0 outbound_max
    && (all (trade_fine (holidays_of v)) (trades_of v) && not (names_repeat (map trade_name (trades_of v))))))))))

-- 41 passes: values in range, and a table that is not too long
unfoldable pub opening_fine : Values → List Pool → Bool
opening_fine v table = values_fine v && leb (length table) records_max

-- a trade as it is opened: open par starts at par
abbrev pub at_par : Trade → Trade
at_par t =
    record {
      id = t.id;
      length = t.length;
      seller = t.seller;
      buyer = t.buyer;
      contra = t.contra;
      cusip = t.cusip;
      settlement = t.settlement;
      price = t.price;
      par = t.par;
      open_par = t.par;
    }

-- a connection as it is opened: inbound expects 1, with none received
abbrev pub at_start : Connection → Connection
at_start c = record { id = c.id; line = start_line; outbound = c.outbound }

-- the book that opening leaves: every trade at par, the line at its start, no live pool
unfoldable pub opened : Values → Book
opened v =
    record {
      values = record { trades = map at_par v.trades; lent = v.lent; last_message_id = v.last_message_id; connection = at_start v.connection };
      live = 0;
    }

-- a book with one trade more than a book can have
abbrev pub overfull : Book → Book
overfull b =
    record {
      values =
          record {
            trades = b.values.trades;
            lent =
                record {
                  trade_count = trades_max + 1;
                  holidays = b.values.lent.holidays;
                  holiday_count = b.values.lent.holiday_count;
                  subscriber = b.values.lent.subscriber;
                  limits = b.values.lent.limits;
                };
            last_message_id = b.values.last_message_id;
            connection = b.values.connection;
          };
      live = b.live;
    }

-- what an opening that 41 refuses gives back: 42 refuses every call on it, whatever the table is
unfoldable pub unopened : Values → Book
unopened v = overfull (opened v)

-- the table that opening leaves: zeros
unfoldable pub cleared : List Pool → List Pool
cleared table = replicate (length table) no_pool

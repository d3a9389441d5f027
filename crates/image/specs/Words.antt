-- The places of a book's words (01, "The book"): those of a trade among its own, and those of the rest among what stands after the trades. Each is a constant of `image` too.
use Rattle.std.specs.Prelude.{ℕ, ◌-◌}
use Rattle.layout.specs.Columns as columns

-- ---- a trade
abbrev pub id : ℕ
id = 0

abbrev pub length : ℕ
length = 16

abbrev pub seller : ℕ
seller = 17

abbrev pub buyer : ℕ
buyer = 21

abbrev pub contra : ℕ
contra = 25

abbrev pub cusip : ℕ
cusip = 29

abbrev pub settlement : ℕ
settlement = 38

abbrev pub price : ℕ
price = 39

abbrev pub par : ℕ
par = 40

abbrev pub open_par : ℕ
open_par = 41

-- ---- the rest
abbrev pub trade_count : ℕ
trade_count = 0

abbrev pub holidays : ℕ
holidays = 1

abbrev pub holiday_count : ℕ
holiday_count = 33

abbrev pub subscriber : ℕ
subscriber = 34

abbrev pub connection : ℕ
connection = 38

abbrev pub ceiling : ℕ
ceiling = 42

abbrev pub variance : ℕ
variance = 43

abbrev pub pools_a_million : ℕ
pools_a_million = 44

abbrev pub least : ℕ
least = 45

abbrev pub last_message_id : ℕ
last_message_id = 46

abbrev pub outbound : ℕ
outbound = 47

-- whether a number was received, and the last one
abbrev pub received : ℕ
received = 48

abbrev pub number : ℕ
number = 49

abbrev pub expected : ℕ
expected = 50

abbrev pub live : ℕ
live = 51

-- ---- widths: an account, a CUSIP, a trade's accounts and CUSIP together, subscriber and connection together
abbrev pub account_width : ℕ
account_width = (columns.submitter).width

abbrev pub cusip_width : ℕ
cusip_width = (columns.cusip).width

abbrev pub names_words : ℕ
names_words = settlement - seller

abbrev pub accounts_words : ℕ
accounts_words = ceiling - subscriber

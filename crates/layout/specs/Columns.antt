-- The columns of a message body (01, "Columns"; 000): the first byte and the width of each header field, and of the fields of a pool detail.
use Rattle.std.specs.Prelude.{ℕ, Option, List, [], ◌∷◌, take, get_or}
use Rattle.lists.specs.Lists.{sum_of, part}
use Rattle.fields.specs.Fields.{read_number}
use Rattle.layout.specs.declared.Column.{Column}

-- a column by its first byte and its width
abbrev pub column : ℕ → ℕ → Column
column at width = record { at = at; width = width }

-- the bytes of a column
abbrev pub bytes_in : List ℕ → Column → List ℕ
bytes_in s c = part s c.at c.width

-- the number in a column
abbrev pub number_in : List ℕ → Column → Option ℕ
number_in s c = read_number s c.at c.width

-- ---- the header, 187 bytes
abbrev pub header_width : ℕ
header_width = 187

abbrev pub message_type : Column
message_type = column 0 2

abbrev pub sequence : Column
sequence = column 2 6

abbrev pub version : Column
version = column 8 3

abbrev pub subscriber : Column
subscriber = column 11 4

abbrev pub connection : Column
connection = column 15 4

abbrev pub submitter : Column
submitter = column 19 4

abbrev pub contra : Column
contra = column 23 4

abbrev pub cusip : Column
cusip = column 27 9

abbrev pub filler_one : Column
filler_one = column 36 1

-- cents: two implied decimals
abbrev pub par : Column
par = column 37 11

abbrev pub filler_two : Column
filler_two = column 48 10

-- nine implied decimals
abbrev pub price : Column
price = column 58 12

-- good delivery millions
abbrev pub gdmm : Column
gdmm = column 70 4

abbrev pub trade_date : Column
trade_date = column 74 8

-- mmddyyyy
abbrev pub settlement : Column
settlement = column 82 8

abbrev pub delivery : Column
delivery = column 90 8

abbrev pub internal_id : Column
internal_id = column 98 16

abbrev pub subaccount : Column
subaccount = column 114 4

abbrev pub reason : Column
reason = column 118 4

abbrev pub target : Column
target = column 122 11

abbrev pub cross_reference : Column
cross_reference = column 133 15

abbrev pub filler_three : Column
filler_three = column 148 4

abbrev pub pos_dup : Column
pos_dup = column 152 1

abbrev pub special : Column
special = column 153 30

abbrev pub number_of_pools : Column
number_of_pools = column 183 4

-- all of them, in order
abbrev pub header : List Column
header =
    message_type ∷ sequence ∷ version ∷ subscriber ∷ connection ∷ submitter ∷ contra ∷ cusip ∷ filler_one ∷ par ∷ filler_two ∷ price ∷ gdmm
    ∷ trade_date ∷ settlement ∷ delivery ∷ internal_id ∷ subaccount ∷ reason ∷ target ∷ cross_reference ∷ filler_three ∷ pos_dup ∷ special
    ∷ number_of_pools ∷ []

-- ---- the pool detail: the widths of 000's table "CTCI Pool Detail", without the end byte
abbrev pub detail_widths : List ℕ
detail_widths =
    6 ∷ 2 ∷ 7 ∷ 9 ∷ 6 ∷ 8 ∷ 1 ∷ 10 ∷ 15 ∷ 15 ∷ 11 ∷ 10 ∷ 9 ∷ 5 ∷ 8 ∷ 4 ∷ 11 ∷ 11 ∷ 11 ∷ 30 ∷ 10 ∷ []

-- D: the detail's total width
abbrev pub detail_width : ℕ
detail_width = sum_of (λ (w : ℕ). w) detail_widths

-- the k-th column of the table, counted from 0, begins where those before it end
abbrev pub detail_column : ℕ → Column
detail_column k = column (sum_of (λ (w : ℕ). w) (take k detail_widths)) (get_or detail_widths k 0)

abbrev pub lot_id : Column
lot_id = detail_column 0

abbrev pub pool_number : Column
pool_number = detail_column 2

-- whole dollars
abbrev pub original_face : Column
original_face = detail_column 3

-- cents: two implied decimals
abbrev pub current_face : Column
current_face = detail_column 10

abbrev pub terminator : Column
terminator = detail_column 15

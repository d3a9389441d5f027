-- The tally of four types by three answers (01, What goes out).
use Rattle.std.specs.Prelude.{ℕ, ◌+◌, Option, Some, None, List, [], cond, get_or, set, ltb}
use Rattle.message_type.specs.declared.MessageType.{MessageType}
use Rattle.message_type.specs.declared.MessageType.TheVariants.{On, Cc, Dk, Cx, Other}
use Rattle.tally.specs.declared.Outcome.{Outcome}
use Rattle.tally.specs.declared.Outcome.TheVariants.{Accepted, Rejected, Dked}

-- the rows in their order: ON, CC, DK, CX
abbrev pub row_on : ℕ
row_on = 0

abbrev pub row_cc : ℕ
row_cc = 1

abbrev pub row_dk : ℕ
row_dk = 2

abbrev pub row_cx : ℕ
row_cx = 3

-- the row of a type; a type that is not in the tally has none
abbrev pub row_of : MessageType → Option ℕ
row_of On = Some row_on
row_of Cc = Some row_cc
row_of Dk = Some row_dk
row_of Cx = Some row_cx
row_of Other = None

-- the columns in their order: accepted, rejected, DKed
abbrev pub column_of : Outcome → ℕ
column_of Accepted = 0
column_of Rejected = 1
column_of Dked = 2

-- a cell is 32 bits wide
abbrev pub full_cell : ℕ
full_cell = 4294967295

-- the count in a row and a column
abbrev pub cell : List (List ℕ) → ℕ → ℕ → ℕ
cell tally row column = get_or (get_or tally row []) column 0

-- one more, but a full cell stays full
abbrev pub more : ℕ → ℕ
more count = cond (ltb count full_cell) (count + 1) count

-- the tally with one cell raised
unfoldable pub one_more : List (List ℕ) → ℕ → ℕ → List (List ℕ)
one_more tally row column = set tally row (set (get_or tally row []) column (more (cell tally row column)))

-- the tally with a cell of a row raised, where there is a row
abbrev pub raised_in : List (List ℕ) → Option ℕ → ℕ → List (List ℕ)
raised_in tally (Some row) column = one_more tally row column
raised_in tally None column = tally

-- the tally after an answer: other types are not in it
abbrev pub raised : List (List ℕ) → MessageType → Outcome → List (List ℕ)
raised tally kind outcome = raised_in tally (row_of kind) (column_of outcome)

-- The tally after a frame call (01, "What goes out"), by four lent rows and the two numbers that the call wrote.
use Rattle.std.specs.Prelude.{ℕ, List, Option, Some, None, cond, length, eqb}
use Rattle.tally.specs.declared.Outcome.{Outcome}
use Rattle.tally.specs.Tally.{raised}
use Rattle.book.specs.Messages.{type_of}
use Rattle.exports_numbers.specs.Said.{heard_in}

-- four rows raised by what is heard, if anything is
abbrev pub raised_by : List ℕ → List (List ℕ) → Option Outcome → List (List ℕ)
raised_by body rows None = rows
raised_by body rows (Some o) = raised rows (type_of body) o

-- four rows after a frame call, raised where its two numbers are those of an answer that an AA tells; else, or where the rows are not four, they stay
unfoldable pub rows_after : List ℕ → List ℕ → List (List ℕ) → List (List ℕ)
rows_after body said rows = cond (eqb (length rows) 4) (raised_by body rows (heard_in said)) rows

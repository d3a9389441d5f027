-- What a message states of its terms, read once for all trades.
use Rattle.std.specs.Prelude.{List, ℕ}
use Rattle.layout.specs.Columns as columns
use Rattle.layout.specs.Columns.{number_in}
use Rattle.book.specs.Messages.{type_of}
use Rattle.check_terms.specs.declared.Stated.{Stated}

-- the type, and the two terms that are numbers
abbrev pub stated_of : List ℕ → Stated
stated_of body = record { message = type_of body; settlement = number_in body columns.settlement; price = number_in body columns.price }

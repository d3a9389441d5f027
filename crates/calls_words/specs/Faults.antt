-- Which rule words and a table break first (01, numbers 41 and 42). Words that lend nothing to opening, or are no book's, break a rule of their own before any other.
use Rattle.std.specs.Prelude.{ℕ, List, [], ◌∷◌, Option, Some, None}
use Rattle.book.specs.declared.Pool.{Pool}
use Rattle.fault.specs.declared.Fault.{Fault}
use Rattle.fault.specs.Rules.{test, first}
use Rattle.fault.specs.Faults.{opening_fault, book_fault}
use Rattle.image.specs.Images.{is_lent, is_image, values_in, book_in}

-- 41, over a table of so many records
unfoldable pub opening_fault_in : List ℕ → ℕ → Option Fault
opening_fault_in ws records = first (test 101 0 (is_lent ws) ∷ opening_fault (values_in ws) records ∷ [])

-- 42
unfoldable pub book_fault_in : List ℕ → List Pool → Option Fault
book_fault_in ws pools = first (test 101 0 (is_image ws) ∷ book_fault (book_in ws) pools ∷ [])

-- what is written: the number of the rule that is broken, and the trade, holiday or record that it is about; zeros where none is
unfoldable pub fault_numbers : Option Fault → List ℕ
fault_numbers None = 0 ∷ 0 ∷ []
fault_numbers (Some f) = f.rule ∷ f.place ∷ []

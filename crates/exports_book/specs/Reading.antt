-- The book that words say (01, "The book"); where they say none, one whose values numbers 41 and 42 refuse with any table.
use Rattle.std.specs.Prelude.{ℕ, ◌≡◌, List, Bool, true, false}
use Rattle.book.specs.declared.Values.{Values}
use Rattle.book.specs.declared.Book.{Book}
use Rattle.book.specs.Opening.{values_fine}
use Rattle.image.specs.Images.{is_lent, values_in, book_in}

-- of words that are known to say a book, or known not to
pub record Reads (known : Bool) (ws : List ℕ) (b : Book) : Type 0 where
  pub book : known ≡ true → b ≡ book_in ws
  pub none : known ≡ false → values_fine b.values ≡ false

-- what words lend to opening
pub record ReadsValues (ws : List ℕ) (v : Values) : Type 0 where
  pub values : is_lent ws ≡ true → v ≡ values_in ws
  pub none : is_lent ws ≡ false → values_fine v ≡ false

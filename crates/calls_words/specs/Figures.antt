-- What the book that words say tells of a trade (01, "The book").
use Rattle.std.specs.Prelude.{ℕ, List, [], ◌∷◌, Option, Some, None, cond}
use Rattle.book.specs.declared.Pool.{Pool}
use Rattle.image.specs.Images.{is_image, book_in}
use Rattle.calls.specs.declared.Figures.{Figures}
use Rattle.calls.specs.Figures.{figures_of}

-- nothing where the words are no book's
unfoldable pub figures_in : List ℕ → List Pool → ℕ → Option Figures
figures_in ws pools trade = cond (is_image ws) (figures_of (book_in ws) pools trade) None

-- what is written of a trade: 1, its open par and its standing millions; zeros where it is not known
unfoldable pub figures_numbers : Option Figures → List ℕ
figures_numbers (Some f) = 1 ∷ f.open_par ∷ f.millions ∷ []
figures_numbers None = 0 ∷ 0 ∷ 0 ∷ []

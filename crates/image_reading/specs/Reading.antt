-- What words are read as: the book whose image they are, or the values that they lend to opening.
use Rattle.std.specs.Prelude.{ℕ, List, Option, Some, None, cond}
use Rattle.book.specs.declared.Values.{Values}
use Rattle.book.specs.declared.Book.{Book}
use Rattle.image.specs.Images.{is_lent, is_image, values_in, book_in}

-- the book that words say, where they are the image of one
unfoldable pub read_book : List ℕ → Option Book
read_book ws = cond (is_image ws) (Some (book_in ws)) None

-- the values that words lend to opening, where they lend some
unfoldable pub read_lent : List ℕ → Option Values
read_lent ws = cond (is_lent ws) (Some (values_in ws)) None

-- What is said of a trade is what the book that was read says of it, and nothing where none was.
use Prim.Native.Nat.{ℕ}
use mathlib.Core.Path.{◌≡◌, refl, ap, ◌∙◌}
use mathlib.Core.List.{List}
use mathlib.Core.Bool.{Bool, true, false, cond}
use Rattle.book.specs.declared.Book.{Book}
use Rattle.book.specs.declared.Pool.{Pool}
use Rattle.image.specs.Images.{is_image, book_in}
use Rattle.calls.specs.declared.Figures.{Figures}
use Rattle.std.specs.Prelude.{Option, None}
use Rattle.calls.specs.Figures.{figures_of}
use Rattle.calls.specs.Calls.{Says}
use Rattle.calls.proofs.Unsound.{unsound_figures}
use Rattle.exports_book.specs.Reading.{Reads}
use Rattle.exports_book.proofs.Reading.{values_unsound}
use Rattle.calls_words.specs.Figures.{figures_in}

pub figures_said : (ws : List ℕ) (pools : List Pool) (trade : ℕ) (b : Book) (f : Option Figures) → Reads (is_image ws) ws b → Says b pools trade f → f ≡ figures_in ws pools trade
unfolding figures_in
figures_said ws pools trade b f reads said = go (is_image ws) reads
  where
    go : (k : Bool) → Reads k ws b → f ≡ cond k (figures_of (book_in ws) pools trade) None
    go true r = said.figures ∙ ap (λ (k : Book). figures_of k pools trade) (r.book refl)
    go false r = said.figures ∙ unsound_figures b pools trade (values_unsound b pools (r.none refl))

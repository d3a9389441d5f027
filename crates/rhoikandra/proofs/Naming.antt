-- The rule that is named is the one that is broken first of what the words say; of words that are no book's it is their own, whatever was found.
use Prim.Native.Nat.{ℕ}
use mathlib.Core.Path.{◌≡◌, refl, ap, ◌∙◌}
use mathlib.Core.List.{List, [], ◌∷◌}
use mathlib.Core.Bool.{Bool, true, false}
use Rattle.std.specs.Prelude.{Option}
use Rattle.book.specs.declared.Book.{Book}
use Rattle.book.specs.declared.Pool.{Pool}
use Rattle.image.specs.Images.{is_image, book_in}
use Rattle.fault.specs.declared.Fault.{Fault}
use Rattle.fault.specs.Rules.{test, first, or_else}
use Rattle.fault.specs.Faults.{book_fault}
use Rattle.exports_book.specs.Reading.{Reads}
use Rattle.calls_words.specs.Faults.{book_fault_in}

-- past a test of words only words that pass it matter
words_first : (b : Bool) (f g : Option Fault) → (b ≡ true → f ≡ g) → or_else (test 101 0 b) f ≡ or_else (test 101 0 b) g
unfolding test
words_first true f g same = same refl
words_first false f g same = refl

pub book_fault_said : (ws : List ℕ) (pools : List Pool) (b : Book) (found : Option Fault) → Reads (is_image ws) ws b → found ≡ book_fault b pools
    → first (test 101 0 (is_image ws) ∷ found ∷ []) ≡ book_fault_in ws pools
unfolding book_fault_in
book_fault_said ws pools b found reads e =
    words_first (is_image ws) found (book_fault (book_in ws) pools) (λ yes. e ∙ ap (λ (k : Book). book_fault k pools) (reads.book yes))

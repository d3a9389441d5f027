-- A book that words say, and a book that 41 and 42 refuse with any table where they say none.
use Prim.Native.Nat.{ℕ}
use mathlib.Core.Path.{◌≡◌}
use mathlib.Core.List.{List}
use mathlib.Core.Bool.{true, false}
use lib.ListN.{length}
use lib.Dec.{eqb}
use borrow.Author.Tests.{eqb-true}
use Rattle.lists.proofs.Tests.{and_right}
use Rattle.book.specs.declared.Values.{Values}
use Rattle.book.specs.declared.Book.{Book}
use Rattle.book.specs.declared.Pool.{Pool}
use Rattle.book.specs.Opening.{values_fine, opening_fine}
use Rattle.book.specs.Soundness.{is_sound}
use Rattle.image.specs.Images.{is_image}
use Rattle.calls_words.specs.Calls.{time_width, callable}

-- values of more trades than a book has
pub too_many : (v : Values) → v.lent.trade_count ≡ 65 → values_fine v ≡ false
unfolding values_fine
too_many v e = rw e

pub values_unsound : (b : Book) (t : List Pool) → values_fine b.values ≡ false → is_sound b t ≡ false
unfolding is_sound
values_unsound b t e = rw e

pub values_refused : (v : Values) (t : List Pool) → values_fine v ≡ false → opening_fine v t ≡ false
unfolding opening_fine
values_refused v t e = rw e

pub callable_six : (ws time : List ℕ) → callable ws time ≡ true → length time ≡ time_width
unfolding callable
callable_six ws time e = eqb-true (length time) time_width (and_right (is_image ws) (eqb (length time) time_width) e)

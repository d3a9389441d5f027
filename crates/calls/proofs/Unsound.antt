-- Of a book that is not sound no trade is known.
use Prim.Native.Nat.{ℕ}
use mathlib.Core.Path.{◌≡◌}
use mathlib.Core.List.{List}
use mathlib.Core.Bool.{false}
use Rattle.book.specs.declared.Book.{Book}
use Rattle.book.specs.declared.Pool.{Pool}
use Rattle.book.specs.Soundness.{is_sound}
use Rattle.std.specs.Prelude.{None}
use Rattle.calls.specs.Figures.{figures_of}

pub unsound_figures : (b : Book) (table : List Pool) (trade : ℕ) → is_sound b table ≡ false → figures_of b table trade ≡ None
unfolding figures_of
unsound_figures b table trade e = rw e

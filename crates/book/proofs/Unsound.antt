-- A call on a book that is not sound: 42 answers it, and book, table and output stay. What a refused opening gives back is such a book, with any table.
use Prim.Native.Nat.{ℕ}
use mathlib.Core.Path.{◌≡◌, refl}
use mathlib.Core.List.{List}
use mathlib.Core.Bool.{false}
use Rattle.book.specs.declared.Values.{Values}
use Rattle.book.specs.declared.Pool.{Pool}
use Rattle.book.specs.declared.Answer.TheVariants.{Rejected}
use Rattle.book.specs.Reasons.{book_unsound}
use Rattle.book.specs.Opening.{values_fine, unopened}
use Rattle.book.specs.Soundness.{is_sound}
use Rattle.book.specs.Checks.{Call, soundness_checks, answer_of}
use Rattle.book.specs.Step.{book_after, table_after, output_for, output_after}

pub unsound_answer : (c : Call) → is_sound c.book c.table ≡ false → answer_of c ≡ Rejected book_unsound
unfolding answer_of soundness_checks is_sound
unsound_answer c e = rw e

module _ (c : Call) (e : is_sound c.book c.table ≡ false) where
  pub unsound_book : book_after c ≡ c.book
  unfolding book_after
  unsound_book = rw (unsound_answer c e)

  pub unsound_table : table_after c ≡ c.table
  unfolding table_after
  unsound_table = rw (unsound_answer c e)

  pub unsound_output : (out : List ℕ) → output_after c out ≡ out
  unfolding output_after output_for
  unsound_output out = rw (unsound_answer c e)

-- one trade too many
pub unopened_unsound : (v : Values) (table : List Pool) → is_sound (unopened v) table ≡ false
unfolding is_sound values_fine unopened
unopened_unsound v table = refl

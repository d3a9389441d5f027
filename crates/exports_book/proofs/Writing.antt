-- The words and numbers that are written are those of the case that the code is in.
use Prim.Native.Nat.{ℕ}
use mathlib.Core.Path.{◌≡◌}
use mathlib.Core.List.{List, [], ◌∷◌}
use lib.ListN.{length, get_or}
use borrow.Author.Tests.{eq-eqb, ne_eqb}
use Rattle.book.specs.declared.Answer.{Answer}
use Rattle.book.specs.declared.Answer.TheVariants.{Accepted, Rejected, Dked}
use Rattle.exports_numbers.specs.Said.{said_of}
use Rattle.exports_book.specs.Writing.{told_as}
use Rattle.calls_words.specs.Calls.{time_width, time_refused, said_with}

-- ---- the end of a call
pub told_own : (time : List ℕ) (a : Answer) → length time ≡ time_width → a ≡ told_as time a
unfolding told_as
told_own time a e = rw (eq-eqb (length time) time_width e)

pub told_other : (time : List ℕ) (a : Answer) → (length time ≡ time_width → ⊥) → Rejected time_refused ≡ told_as time a
unfolding told_as
told_other time a e = rw (ne_eqb (length time) time_width e)

-- two numbers and a third
pub two_more : (two : List ℕ) (a : Answer) (n : ℕ) → two ≡ said_of a → get_or two 0 0 ∷ get_or two 1 0 ∷ n ∷ [] ≡ said_with a n
two_more two (Accepted id) n e = rw e
two_more two (Rejected r) n e = rw e
two_more two (Dked r) n e = rw e

-- What a day leaves: book and table as after the calls of the tape, each count that of the frames accepted and of the others.
use Rattle.std.specs.Prelude.{ℕ, ◌+◌, ◌≡◌, List, [], ◌∷◌, cond}
use Rattle.book.specs.declared.Book.{Book}
use Rattle.book.specs.declared.Pool.{Pool}
use Rattle.book.specs.History.{Fed}
use Rattle.book.specs.Promise.{State, after_all, fed}
use Rattle.day.specs.declared.Day.{Day}
use Rattle.day.specs.Tape.{puts_of}

-- a book and a table
abbrev pub state_of : Book → List Pool → State
state_of b pools = record { book = b; table = pools }

-- the accepted among calls
abbrev pub accepted_among : List Fed → ℕ
accepted_among [] = 0
accepted_among (f ∷ fs) = cond f.is_accepted 1 0 + accepted_among fs

-- all others
abbrev pub others_among : List Fed → ℕ
others_among [] = 0
others_among (f ∷ fs) = cond f.is_accepted 0 1 + others_among fs

-- what a day promises of any book, table and tape
pub record Passes (b : Book) (pools : List Pool) (tape : List ℕ) (r : Day) (pools' : List Pool) : Type 0 where
  pub state : state_of r.book pools' ≡ after_all (state_of b pools) (puts_of tape)
  pub accepted : r.accepted ≡ accepted_among (fed (state_of b pools) (puts_of tape))
  pub others : r.others ≡ others_among (fed (state_of b pools) (puts_of tape))

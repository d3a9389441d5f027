-- The calls on a lent table (01, "The book", "What goes out"): what a frame call, an opening and a question for a trade's figures promise.
use Rattle.std.specs.Prelude.{ℕ, ◌≡◌, List, Option, Result, Ok, Err, cond}
use Rattle.book.specs.declared.Caller.{Caller}
use Rattle.book.specs.declared.Values.{Values}
use Rattle.book.specs.declared.Book.{Book}
use Rattle.book.specs.declared.Pool.{Pool}
use Rattle.book.specs.Opening.{opening_fine, opened, unopened, cleared}
use Rattle.book.specs.Checks.{answer_of}
use Rattle.book.specs.Step.{book_after, table_after, output_after, call_with}
use Rattle.calls.specs.declared.Figures.{Figures}
use Rattle.calls.specs.Figures.{figures_of}
use Rattle.calls.specs.declared.Stepped.{Stepped}

-- a frame call: answer, book, table and output after it are those of the definitions
pub record Framed (b : Book) (pools : List Pool) (body : List ℕ) (caller : Caller) (out : List ℕ) (r : Stepped) (pools' : List Pool) (out' : List ℕ) : Type 0 where
  pub answer : r.answer ≡ answer_of (call_with b pools body caller out)
  pub book : r.book ≡ book_after (call_with b pools body caller out)
  pub table : pools' ≡ table_after (call_with b pools body caller out)
  pub output : out' ≡ output_after (call_with b pools body caller out) out

-- an opening: where 41 lets it pass, the opened book, and zeros in the table; else a book that every call refuses, and the table as it was
pub record Opens (v : Values) (pools : List Pool) (r : Result Book Book) (pools' : List Pool) : Type 0 where
  pub book : r ≡ cond (opening_fine v pools) (Ok (opened v)) (Err (unopened v))
  pub table : pools' ≡ cond (opening_fine v pools) (cleared pools) pools

-- a trade's figures: open par and standing millions, where the book is sound and has the trade
pub record Says (b : Book) (pools : List Pool) (trade : ℕ) (r : Option Figures) : Type 0 where
  pub figures : r ≡ figures_of b pools trade

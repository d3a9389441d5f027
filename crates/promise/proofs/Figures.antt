-- The figure itself: what a call says of a trade, after any run on a book that was opened without refusal, is what demand 3 says. The book is sound, so that
-- the trade is known; what is said of it is then the book's open par and standing millions.
use Prim.Native.Nat.{ℕ, ◌<◌}
use mathlib.Core.Path.{◌≡◌}
use mathlib.Core.List.{List}
use mathlib.Core.Bool.{true}
use Rattle.std.specs.Prelude.{Option, Ok, IsSomeAnd}
use native.Mathlib.Omega.{arith}
use lib.ListN.{length}
use borrow.Author.Tests.{lt-ltb}
use Rattle.book.specs.declared.Values.{Values}
use Rattle.book.specs.declared.Book.{Book}
use Rattle.book.specs.declared.Pool.{Pool}
use Rattle.book.specs.Trades.{trades_of}
use Rattle.book.specs.Soundness.{is_sound}
use Rattle.book.specs.History.{Fed}
use Rattle.book.specs.Promise.{State, Demand3}
use Rattle.book.proofs.Reached.{sound_is}
use Rattle.calls.specs.declared.Figures.{Figures}
use Rattle.calls.specs.Figures.{figures_of}
use Rattle.calls.specs.Calls.{Opens, Says}
use Rattle.promise.specs.Runs.{Run}
use Rattle.promise.specs.Told.{Told}
use Rattle.promise.proofs.Promised.{calls_demand3, calls_sound, calls_count}

-- a state that keeps demand 3, whose book is sound and has opening's trades
pub figures_told : (v : Values) (s : State) (fs : List Fed) → Demand3 v s fs → is_sound s.book s.table ≡ true → length (trades_of s.book.values) ≡ length (trades_of v)
    → (t : ℕ) → t < length (trades_of v) → IsSomeAnd (figures_of s.book s.table t) (λ (f : Figures). Told v fs t f.open_par f.millions)
unfolding figures_of
figures_told v s fs d sound count t lt = rw (sound, lt-ltb t (length (trades_of s.book.values)) (omega arith)) (record { history_sum = d.history_sum t lt; standing = d.millions t })

-- the calls: an opening that passes, any run of frame calls, and then a question for a trade's figures
pub calls_figures : (v : Values) (pools zeros : List Pool) (b : Book) → Opens v pools (Ok b) zeros → (s : State) (fs : List Fed) → Run (record { book = b; table = zeros }) fs s
    → (t : ℕ) → t < length (trades_of v) → (r : Option Figures) → Says s.book s.table t r → IsSomeAnd r (λ (f : Figures). Told v fs t f.open_par f.millions)
calls_figures v pools zeros b o s fs run t lt r says =
    rw says.figures
    (figures_told v s fs (calls_demand3 v pools zeros b o s fs run) (sound_is s.book s.table (calls_sound v pools zeros b o s fs run)) (calls_count v pools zeros b o s fs run) t lt)

-- Demand 3 of the program: it holds of the book and the table that every tape leaves, and the figures that the program reports of the tape are those that it says.
use mathlib.Core.List.{List}
use Prim.Native.Nat.{ℕ, ◌<◌}
use native.Mathlib.Omega.{arith}
use lib.ListN.{length, replicate}
use Rattle.book.specs.Records.{no_pool}
use Rattle.book.specs.Trades.{trades_of}
use Rattle.book.specs.Promise.{after_all, fed, Demand3}
use Rattle.book.proofs.Demand3.{run, demand3, traced_count}
use Rattle.book.proofs.Undamaged.{always_sound}
use Rattle.promise.specs.Told.{Told}
use Rattle.std.specs.Prelude.{Option, Some, None, unwrap_or, IsSomeAnd}
use Rattle.calls.specs.declared.Figures.{Figures}
use Rattle.promise.proofs.Figures.{figures_told}
use Rattle.day.specs.Tape.{puts_of}
use Rattle.daytape.specs.declared.Report.{Report}
use Rattle.daytape.specs.Program.{values_given, start, Reports}
use Rattle.daytape.proofs.Given.{given_fine, given_passes}

pub program_demand3 : (tape : List ℕ) → Demand3 values_given (after_all start (puts_of tape)) (fed start (puts_of tape))
program_demand3 tape = demand3 values_given (replicate 512 no_pool) (given_passes values_given given_fine) (puts_of tape)

-- the program has one trade
has_trade : 0 < length (trades_of values_given)
unfolding values_given
has_trade = omega arith

-- what is printed of a trade that is known
printed : (f : Option Figures) (none : Figures) (P : Figures → Type 0) → IsSomeAnd f P → P (unwrap_or f none)
printed (Some f) none P told = told
printed None none P told = absurd told

-- of any tape, a report that keeps the contract of `day_of` tells T1's open par and good millions as demand 3 has them
pub program_figures : (tape : List ℕ) (r : Report) → Reports tape r → Told values_given (fed start (puts_of tape)) 0 r.open_par r.millions
program_figures tape r says =
    rw (says.open_par, says.millions)
    (printed _ (record { open_par = 0; millions = 0 }) (λ (f : Figures). Told values_given (fed start (puts_of tape)) 0 f.open_par f.millions)
    (figures_told values_given (after_all start (puts_of tape)) (fed start (puts_of tape)) (program_demand3 tape) (always_sound values_given (replicate 512 no_pool) (given_passes values_given given_fine) (puts_of tape))
    (traced_count values_given (replicate 512 no_pool) (given_passes values_given given_fine) (after_all start (puts_of tape)) (fed start (puts_of tape)) (run start (puts_of tape))) 0 has_trade))
